use Rattle.std.proofs.Common.{◌≡◌, ◌∙◌, ap, subst, sym, ℤ, pos, ◌-ℤ◌, ◌+ℤ◌, arith, to_z, of_z, w64}
use Rattle.std.specs.Int.{int_max, int_min}
use Rattle.std.proofs.lemmas.Int.{clamps, ints}
use Rattle.wm_modes.specs.declared.sides.FlowSide.TheVariants.{LineLeft}
use Rattle.wm_modes.specs.declared.sides.Side.{Side}
use Rattle.hit_caret.specs.Cells.{line_side, taken}
use Rattle.hit_caret.specs.Near.{IsDistance, IsNearNumber}
use Rattle.hit_caret.specs.Rects.{extent_from}
use Rattle.hit_caret.proofs.Nearness.{near_extent, next_is_distance, taken_is_distance}
use Rattle.hit_caret.proofs.cells.Run.taken.Goals as goal

is_taken : (c : goal.After-max) → to_z w64 (of_z w64 c.max.result) ≡ taken c.args.self.now c.args.distance c.args.extent
is_taken c =
    let run = c.args.self.now in
    let whole : c.extent_from.result ≡ extent_from (line_side run.mode LineLeft) run.rect =
    c.extent_from.ensures ∙ ap (λ (s : Side). extent_from s run.rect) c.line_side-line_left.ensures in
    let near : IsNearNumber c.extent_from.result = subst IsNearNumber (sym whole) (near_extent (line_side run.mode LineLeft) run.rect c.requires.rect) in
    let least = c.requires.distance.least in
    let most = c.requires.distance.most in
    let less = c.min.ensures.value in
    let more = c.max.ensures.value in
    let one : c.min.result ≡ int_min c.args.extent (c.extent_from.result -ℤ c.args.distance) = omega (arith, ints, clamps, near, least, most, less) in
    let two : to_z w64 (of_z w64 c.max.result) ≡ int_max c.min.result (pos 0) = omega (arith, ints, clamps, more) in
    two ∙ ap (λ (z : ℤ). int_max z (pos 0)) (one ∙ ap (λ (w : ℤ). int_min c.args.extent (w -ℤ c.args.distance)) whole)

pub returns-clause-value : goal.returns-clause-value
returns-clause-value c = is_taken c

pub returns-clause-extent : goal.returns-clause-extent
returns-clause-extent c = subst IsDistance (sym (is_taken c)) (taken_is_distance c.args.self.now c.args.distance c.args.extent c.requires.rect c.requires.distance)

pub returns-clause-next : goal.returns-clause-next
returns-clause-next c =
    subst (λ (z : ℤ). IsDistance (c.args.distance +ℤ z)) (sym (is_taken c)) (next_is_distance c.args.self.now c.args.distance c.args.extent c.requires.rect c.requires.distance)
