use Rattle.std.proofs.Common.{arith, to_z, of_z, w64}
use Rattle.std.proofs.lemmas.Int.{ints}
use Rattle.page_window.proofs.Meeting.{none_across, none_down}
use Rattle.page_window.proofs.rects.reaches.Goals as goal

pub returns-then-reaches_along : goal.returns-then-reaches_along
returns-then-reaches_along c away =
    let rect = c.args.rect.now in
    let bound = c.args.bound.now in
    none_down rect bound (to_z w64 (of_z w64 rect.y)) (to_z w64 (of_z w64 rect.h)) (to_z w64 (of_z w64 bound.top)) (to_z w64 (of_z w64 bound.bottom))
    (omega (arith, ints)) (omega (arith, ints)) (omega (arith, ints)) (omega (arith, ints)) (c.reaches_along-then-reaches_along.ensures away)

pub returns-else-reaches_along : goal.returns-else-reaches_along
returns-else-reaches_along c away =
    let rect = c.args.rect.now in
    let bound = c.args.bound.now in
    none_across rect bound (to_z w64 (of_z w64 rect.x)) (to_z w64 (of_z w64 rect.w)) (to_z w64 (of_z w64 bound.left)) (to_z w64 (of_z w64 bound.right))
    (omega (arith, ints)) (omega (arith, ints)) (omega (arith, ints)) (omega (arith, ints)) (c.reaches_along.ensures away)
