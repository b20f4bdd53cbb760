use Rattle.std.proofs.Common.{◌≡◌, ◌≤◌, map, drop, length, reverse}
use Rattle.line_place.specs.Marks.{is_end_of, rightmost, mark_of}
use Rattle.line_place.specs.Reach.{Tells}
use Rattle.line_place.proofs.marks.with_rightmost.Given as goal

abbrev pub invariant-loop-from : goal.invariant-loop-from
invariant-loop-from g l = record {
  all : reverse (map mark_of l.made.items) ≡ rightmost (drop l.from (map mark_of l.marks));
  tells : Tells is_end_of l.ended.items (drop l.from (map mark_of l.marks));
  count : length l.ended.items ≡ l.count;
  within : l.from ≤ length l.marks;
}

abbrev pub decreases-loop-from : goal.decreases-loop-from
decreases-loop-from g l = l.from
