use Rattle.dom_store.specs.State.{entry_of, state_of}
use Rattle.cascade.specs.Index.{index_rules}
use Rattle.box_limits.proofs.Placing.{nothing_above, nowhere, place_placed}
use Rattle.box_limits.proofs.judging.Judging.+place.Goals as goal

pub returns-in_default-clause-place : goal.returns-in_default-clause-place
returns-in_default-clause-place t c =
    λ level at within. nowhere (index_rules c.args.self.now.styling.rules.now) (state_of c.args.self.now.styling.document.now) c.requires.tree c.args.number c.in_default.ensures _ c.outside-in_default.ensures.value

pub returns-in_default-parent-clause-place : goal.returns-in_default-parent-clause-place
returns-in_default-parent-clause-place t c =
    λ level at within. nothing_above (index_rules c.args.self.now.styling.rules.now) (state_of c.args.self.now.styling.document.now) c.requires.tree c.args.number (entry_of c.in-Some.node.now) c.in-Some.ensures c.in_default-parent.is _ c.outside-in_default-parent.ensures.value

pub returns-clause-place : goal.returns-clause-place
returns-clause-place t c =
    place_placed (index_rules c.args.self.now.styling.rules.now) (state_of c.args.self.now.styling.document.now) c.requires.tree c.args.number c.in-Some-parent.parent c.args.most (entry_of c.in-Some.node.now) c.in-Some.ensures c.in-Some-parent.is
    c.if-number-eq-BODY.false c.in_ok-above.above c.in_ok-above.ensures.place c.in_ok-style.style c.in_ok-style.ensures.style _ c.in_node.ensures.value
