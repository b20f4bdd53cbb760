use Rattle.std.proofs.Common.{ap, ◌∙◌}
use Rattle.style_types.specs.declared.style.Style.{Style}
use Rattle.dom_store.specs.State.{state_of}
use Rattle.cascade.specs.Index.{index_rules}
use Rattle.style_tree.specs.Styling.{unturned, winners_at}
use Rattle.box_limits.proofs.Placing.{body_lives, body_placed}
use Rattle.box_limits.proofs.judging.Judging.body_place.Goals as goal

pub unwrap-body-requires : goal.unwrap-body-requires
unwrap-body-requires c = body_lives (index_rules c.args.self.now.styling.rules.now) (state_of c.args.self.now.styling.document.now) c.requires.tree c.node.result c.node.ensures

pub returns-clause-place : goal.returns-clause-place
returns-clause-place c =
    body_placed (index_rules c.args.self.now.styling.rules.now) (state_of c.args.self.now.styling.document.now) c.requires.tree c.node.result c.unwrap-body.result c.unwrap-body.ensures c.node.ensures
    _ (c.in_ok-style.ensures.style ∙ ap (λ (html : Style). unturned html (winners_at (index_rules c.args.self.now.styling.rules.now) (state_of c.args.self.now.styling.document.now) 1 html)) c.in_ok-html.ensures.style) _ _ c.of_body.ensures.value c.in_node.ensures.value
