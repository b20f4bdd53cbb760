use Rattle.std.proofs.Common.{ap, ◌∙◌}
use Rattle.style_types.specs.declared.style.Style.{Style}
use Rattle.dom_store.specs.State.{state_of}
use Rattle.cascade.specs.Index.{index_rules}
use Rattle.computed.specs.Step.{style_of}
use Rattle.style_tree.specs.Styling.{winners_at}
use Rattle.style_tree.proofs.styling.Styling.html_style.Goals as goal

pub compute-requires-clause-winners : goal.compute-requires-clause-winners
compute-requires-clause-winners c = c.in_ok-winners.ensures.said c.args.self.now.are_said_rules c.args.self.now.is_said_state

pub returns-clause-style : goal.returns-clause-style
returns-clause-style c =
    c.compute.ensures.style ∙ ap (style_of c.initial-parent.result) c.in_ok-winners.ensures.winners
    ∙ ap (λ (parent : Style). style_of parent (winners_at (index_rules c.args.self.now.rules.now) (state_of c.args.self.now.document.now) 0 parent)) c.initial-parent.ensures.initial
