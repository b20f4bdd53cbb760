use Rattle.std.proofs.Common.{◌∙◌}
use Rattle.dom_store.specs.State.{state_of}
use Rattle.cascade.specs.Index.{index_rules}
use Rattle.box_limits.proofs.Editing.{all_from_body, body_inside}
use Rattle.box_limits.proofs.Placing.{children_found}
use Rattle.box_limits.proofs.judging.Judging.below_body.Goals as goal

pub children-requires-clause-inside : goal.children-requires-clause-inside
children-requires-clause-inside c =
    body_inside (index_rules c.args.self.now.styling.rules.now) (state_of c.args.self.now.styling.document.now) c.requires.tree c.deref.result.now
    (c.deref.ensures.value ∙ children_found (state_of c.args.self.now.styling.document.now) 1 c.node.result c.unwrap-body.result c.unwrap-body.ensures c.node.ensures)

pub returns : goal.returns
returns c =
    all_from_body (index_rules c.args.self.now.styling.rules.now) (state_of c.args.self.now.styling.document.now) c.requires.tree c.deref.result.now
    (c.deref.ensures.value ∙ children_found (state_of c.args.self.now.styling.document.now) 1 c.node.result c.unwrap-body.result c.unwrap-body.ensures c.node.ensures) c.in_ok-found.found c.in_ok-found.ensures
