use Rattle.std.proofs.Common.{◌≡◌, ◌∙◌, refl, to_z, of_z, w64, rules}
use Rattle.std.proofs.lemmas.Int.{to_z-of_z}
use Rattle.line_place.specs.Marks.{mark_of}
use Rattle.line_place.specs.Placing.{under_of}
use Rattle.line_place.proofs.AtomLaws.{shows_first}
use Rattle.line_place.proofs.MarkLaws.{of_box}
use Rattle.line_place.proofs.SumLaws.{more_max}
use Rattle.line_place.proofs.measure.line_under.Goals as goal

pub with_under-under-requires-clause-atoms : goal.with_under-under-requires-clause-atoms
with_under-under-requires-clause-atoms g c = shows_first c.loop-mark.mark-index c.args.marks.now _ c.requires.atoms c.loop-mark-test.true c.mark-item.is

pub with_under-under-requires-clause-of_box : goal.with_under-under-requires-clause-of_box
with_under-under-requires-clause-of_box g c = of_box _ c.loop-mark.mark-index c.args.marks.now _ c.requires.of_boxes c.loop-mark-test.true c.mark-item.is

pub loop-mark-preserved : goal.loop-mark-preserved
loop-mark-preserved g c =
    let own : to_z w64 (of_z w64 c.with_under-under.result) ≡ c.with_under-under.result = to_z-of_z w64 c.with_under-under.result (search rules) in
    more_max mark_of (under_of c.args.boxes.now) c.args.marks.now c.loop-mark.mark-index c.mark-item.result _ _ _ _ _ c.loop-mark.invariant c.loop-mark-test.true c.mark-item.is
    refl refl (own ∙ c.with_under-under.ensures)
