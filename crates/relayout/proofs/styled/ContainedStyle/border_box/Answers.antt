use Rattle.std.proofs.Common.{rules, refl, ap, ◌∙◌, w64}
use Rattle.std.proofs.lemmas.Int.{to_z-of_z}
use Rattle.relayout.specs.Boxed.{border_across, border_along}
use Rattle.relayout.proofs.BoxedLaws.{border_box_is}
use Rattle.relayout.proofs.styled.ContainedStyle.border_box.Goals as goal

pub returns : goal.returns
returns c =
    let own = c.args.self.now in
    border_box_is own.containing own.style.now own.c c.args.size c.args.extent c.turned.result _ _ _ _ _ c.turned.ensures c.is_parallel.ensures refl refl
    (to_z-of_z w64 c.border_along.result (search rules) ∙ c.border_along.ensures ∙ ap (border_along own.style.now own.c) (to_z-of_z w64 c.args.size c.ranges.size))
    (to_z-of_z w64 c.border_across.result (search rules) ∙ c.border_across.ensures ∙ ap (border_across own.style.now own.c) (to_z-of_z w64 c.args.extent c.ranges.extent))
