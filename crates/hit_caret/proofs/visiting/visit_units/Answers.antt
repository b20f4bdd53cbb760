use Rattle.std.proofs.Common.{◌≡◌, ◌∙◌, ap, subst, sym, ℤ, ◌+ℤ◌, arith, to_z, of_z, w64}
use Rattle.std.proofs.lemmas.Int.{ints}
use Rattle.hit_caret.specs.Cells.{taken}
use Rattle.hit_caret.specs.Near.{IsDistance}
use Rattle.hit_caret.proofs.Visits.{one_unit}
use Rattle.hit_caret.proofs.visiting.visit_units.Goals as goal

pub loop-unit-preserved : goal.loop-unit-preserved
loop-unit-preserved g c =
    let run = c.args.run.now in
    let distance : ℤ = to_z w64 c.loop-unit.distance-bits in
    let extent : ℤ = to_z w64 (of_z w64 c.taken-taken.result) in
    let next : ℤ = to_z w64 (of_z w64 (distance +ℤ extent)) in
    let whole : to_z w64 (of_z w64 c.extent.result) ≡ c.extent.result = omega (arith, ints) in
    let here : extent ≡ c.taken-taken.result = omega (arith, ints) in
    let takes : extent ≡ taken run distance c.unit-item.result.extent =
    here ∙ c.taken-taken.ensures.value ∙ ap (λ (e : ℤ). taken run distance e) (whole ∙ c.extent.ensures) in
    let least = c.taken-taken.ensures.next.least in
    let most = c.taken-taken.ensures.next.most in
    let moved : next ≡ distance +ℤ extent = omega (arith, ints, least, most) in
    record {
      seen =
          one_unit run c.args.units.now c.loop-unit.unit-index c.unit-item.result distance c.loop-unit-test.true c.unit-item.is g.V.CellVisitor.seen c.loop-unit.visitor c.see.new.self _
          c.cell_of.result extent next c.loop-unit.invariant.seen takes c.cell_of.ensures.value c.see.ensures moved;
      from = subst IsDistance (sym (moved ∙ ap (λ (e : ℤ). distance +ℤ e) here)) c.taken-taken.ensures.next;
    }
