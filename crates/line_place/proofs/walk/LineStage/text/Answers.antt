use Rattle.std.proofs.Common.{[], ◌≡◌, ◌∙◌, refl, arith, to_z, of_z, w64, rules}
use Rattle.std.proofs.lemmas.Int.{ints, to_z-of_z}
use Rattle.line_place.specs.Line.{line_in}
use Rattle.line_place.proofs.Fragments.{text_same}
use Rattle.line_place.proofs.walk.LineStage.text.Goals as goal

pub returns : goal.returns
returns g c next =
    let own : to_z w64 (of_z w64 c.args.extent) ≡ c.args.extent = to_z-of_z w64 c.args.extent (search rules) in
    let l : to_z w64 (of_z w64 c.args.left) ≡ c.args.left = omega (arith, ints) in
    c.in_ok-made.ensures next
    ∙ text_same (line_in c.args.self.now.frame.now []) c.args.self.now.over c.args.left c.args.named.now.node c.args.named.now.form c.args.named.now.natural c.args.run.now next
    _ _ _ _ _ _ _ _ _ _
    c.unnumbered.ensures c.text_rect-rect.ensures refl l (own ∙ c.requires.extent) c.extents_in-extents.ensures.is
    c.first_inside-inside.ensures c.in_ok-kind.ensures c.first_level-level.ensures c.in_ok-units.ensures
