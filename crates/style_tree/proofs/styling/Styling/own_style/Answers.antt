use Rattle.std.proofs.Common.{ap, ◌∙◌}
use Rattle.computed.specs.Step.{style_of}
use Rattle.style_tree.proofs.styling.Styling.own_style.Goals as goal

pub compute-requires-clause-winners : goal.compute-requires-clause-winners
compute-requires-clause-winners c = c.in_ok-winners-in-Element.ensures.said c.args.self.now.are_said_rules c.args.self.now.is_said_state

pub returns-in_ok-winners-in-Element-clause-style : goal.returns-in_ok-winners-in-Element-clause-style
returns-in_ok-winners-in-Element-clause-style c =
    rw c.in-Element.is (c.compute.ensures.style ∙ ap (style_of c.args.parent.now) c.in_ok-winners-in-Element.ensures.winners)
