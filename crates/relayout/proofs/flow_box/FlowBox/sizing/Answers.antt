use Rattle.std.proofs.Common.{◌∙◌, ap}
use Rattle.box_arena.specs.At.{node_of}
use Rattle.relayout.specs.Sizes.{containing_of}
use Rattle.relayout.proofs.StepLaws.{sizing_made}
use Rattle.relayout.proofs.flow_box.FlowBox.sizing.Goals as goal

pub returns-clause-sizing : goal.returns-clause-sizing
returns-clause-sizing c =
    let own = c.args.self.now in
    let styled = c.contained_style-own.ensures in
    sizing_made own.containing (node_of own.node.now) own.c _ _ _ _ (c.of.ensures ∙ ap containing_of c.deref.ensures) c.handed_on.ensures.value
    (rw (styled.containing, styled.style, styled.sizes) at c.is_measured-measures.ensures)
    (rw (styled.containing, styled.style, styled.sizes) at c.definite_under.ensures.value)
