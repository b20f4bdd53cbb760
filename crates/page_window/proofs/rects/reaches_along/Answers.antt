use Rattle.std.proofs.Common.{arith, to_z, of_z, w64}
use Rattle.std.proofs.lemmas.Int.{ints}
use Rattle.page_window.proofs.Meeting.{none_before, none_behind}
use Rattle.page_window.proofs.rects.reaches_along.Goals as goal

pub returns-then-start-last : goal.returns-then-start-last
returns-then-start-last c behind =
    none_behind c.is_before_end.result (to_z w64 (of_z w64 c.args.start)) (to_z w64 (of_z w64 c.args.extent)) (to_z w64 (of_z w64 c.args.first)) c.args.start c.args.extent c.args.first c.args.last
    (omega (arith, ints)) (omega (arith, ints)) (omega (arith, ints)) c.is_before_end.ensures behind

pub returns-else-start-last : goal.returns-else-start-last
returns-else-start-last c is =
    none_before (to_z w64 (of_z w64 c.args.start)) (to_z w64 (of_z w64 c.args.last)) c.args.start c.args.extent c.args.first c.args.last
    (omega (arith, ints)) (omega (arith, ints)) c.if-start-last.false
