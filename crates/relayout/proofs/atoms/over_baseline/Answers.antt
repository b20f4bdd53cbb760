use Rattle.std.proofs.Common.{rules, ◌≡◌, ◌∙◌, ap, ◌+ℤ◌, w64, FitsSigned, to_z, of_z}
use Rattle.std.specs.Int.{saturate_signed}
use Rattle.std.proofs.lemmas.Int.{to_z-of_z}
use Rattle.relayout.specs.Atoms.{held_distance}
use Rattle.relayout.proofs.AtomLaws.{held_twice}
use Rattle.relayout.proofs.atoms.over_baseline.Goals as goal

pub returns-in-Some : goal.returns-in-Some
returns-in-Some c =
    let from = c.in-Some.found.from in
    let over = c.in-Some.found.over in
    let f : FitsSigned w64 from = search rules in
    let o : FitsSigned w64 over = search rules in
    let m : to_z w64 (of_z w64 c.args.margin) ≡ c.args.margin = to_z-of_z w64 c.args.margin c.ranges.margin in
    let reached : c.saturating_add.result ≡ saturate_signed w64 (from +ℤ over) = rw (to_z-of_z w64 from f, to_z-of_z w64 over o) at c.saturating_add.ensures in
    let whole : c.saturating_add-in-Some.result ≡ saturate_signed w64 (c.args.margin +ℤ c.saturating_add.result) = rw (m, to_z-of_z w64 c.saturating_add.result (search rules)) at c.saturating_add-in-Some.ensures in
    ap held_distance (to_z-of_z w64 c.saturating_add-in-Some.result (search rules))
    ∙ held_twice c.args.margin from over c.saturating_add.result c.saturating_add-in-Some.result c.requires.margin reached whole
    ∙ search rules
