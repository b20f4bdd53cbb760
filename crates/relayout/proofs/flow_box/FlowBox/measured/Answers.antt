use Rattle.std.proofs.Common.{rules, ◌∙◌, refl, w64}
use Rattle.std.proofs.lemmas.Int.{to_z-of_z}
use Rattle.box_arena.specs.At.{node_of}
use Rattle.relayout.proofs.BoxedLaws.{measured_is}
use Rattle.relayout.proofs.flow_box.FlowBox.measured.Goals as goal

pub returns : goal.returns
returns c =
    let own = c.args.self.now in
    let styled = c.contained_style.ensures in
    measured_is own.containing (node_of own.node.now) c.args.content _ _ _ _ _ _ _ _ c.in_ok-made.ensures refl refl refl refl c.measure-kind.ensures
    (to_z-of_z w64 c.around_measured.result (search rules) ∙ rw (styled.containing, styled.style) at c.around_measured.ensures.value) (search rules)
