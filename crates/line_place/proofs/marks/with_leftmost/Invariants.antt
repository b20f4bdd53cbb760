use Rattle.std.proofs.Common.{◌≡◌, ◌++◌, ◌-◌, ◌≤◌, [], map, take, drop, length, reverse}
use Rattle.line_place.specs.Marks.{is_begin_of, leftmost, mark_of}
use Rattle.line_place.specs.Reach.{Tells}
use Rattle.line_place.proofs.marks.with_leftmost.Given as goal

abbrev pub invariant-loop-left : goal.invariant-loop-left
invariant-loop-left g l = record {
  all : map mark_of l.made.items ++ leftmost (take (length l.from_right - l.left) (reverse (map mark_of l.from_right))) (drop (length l.from_right - l.left) (reverse (map mark_of l.from_right))) ≡ leftmost [] (reverse (map mark_of l.from_right));
  tells : Tells is_begin_of l.begun.items (take (length l.from_right - l.left) (reverse (map mark_of l.from_right)));
  count : length l.begun.items ≡ l.count;
  within : l.left ≤ length l.from_right;
}

abbrev pub decreases-loop-left : goal.decreases-loop-left
decreases-loop-left g l = l.left
