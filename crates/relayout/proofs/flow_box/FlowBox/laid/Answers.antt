use Rattle.std.proofs.Common.{◌∙◌}
use Rattle.box_arena.specs.At.{node_of}
use Rattle.relayout.proofs.StepLaws.{box_measured, measured_reach}
use Rattle.relayout.proofs.flow_box.FlowBox.laid.Goals as goal

pub returns-in_ok-made-in-MinMax-clause-part : goal.returns-in_ok-made-in-MinMax-clause-part
returns-in_ok-made-in-MinMax-clause-part g c = λ outside members same ready inside.
    let own = c.args.self.now in
    c.in_ok-made-in-MinMax.ensures ∙ box_measured outside own.containing (node_of own.node.now) own.c c.args.size c.in-MinMax.content members c.in-MinMax.is

pub returns-in_ok-made-in-MinMax-clause-reach : goal.returns-in_ok-made-in-MinMax-clause-reach
returns-in_ok-made-in-MinMax-clause-reach g c = λ list reach are deep.
    let own = c.args.self.now in
    measured_reach own.containing (node_of own.node.now) c.in-MinMax.content _ _ c.in_ok-made-in-MinMax.ensures
