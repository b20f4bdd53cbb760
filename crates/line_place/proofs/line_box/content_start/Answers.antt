use Rattle.std.proofs.Common.{◌≡◌, ◌∙◌, ap, arith, ◌≤◌, ◌^◌, map, ◌-ℤ◌, ℤ, unsigned_abs}
use Rattle.std.proofs.lemmas.Int.{ints}
use Rattle.line_place.specs.Marks.{mark_of}
use Rattle.line_place.specs.Placing as rule
use Rattle.line_place.proofs.Lengths.{difference_held, held}
use Rattle.line_place.proofs.line_box.content_start.Goals as goal

pub overflow_sub-rest : goal.overflow_sub-rest
overflow_sub-rest g c =
    omega (arith, ints, c.width.ensures.near, c.requires.reach)

pub returns-else-starts_at_left-clause-is : goal.returns-else-starts_at_left-clause-is
returns-else-starts_at_left-clause-is g c =
    let w : c.width.result ≡ rule.width c.args.line.now.boxes.now (map mark_of c.args.marks.now) = c.width.ensures.is in
    let a : unsigned_abs c.args.line.now.available ≤ 2 ^ 61 = omega (arith, c.requires.reach) in
    let b : unsigned_abs c.width.result ≤ 2 ^ 61 = omega (arith, c.width.ensures.near, c.requires.reach) in
    let r = difference_held c.args.line.now.available c.width.result a b ∙ ap (λ (z : ℤ). c.args.line.now.available -ℤ z) w in
    held c.offset.result (omega (arith, ints, c.width.ensures.near, c.offset.ensures.near, c.requires.reach)) ∙ c.offset.ensures.is ∙ ap (rule.offset c.args.line.now.align c.args.line.now.base) r

pub returns-else-starts_at_left-clause-near : goal.returns-else-starts_at_left-clause-near
returns-else-starts_at_left-clause-near g c =
    omega (arith, ints, c.width.ensures.near, c.offset.ensures.near, c.requires.reach)
