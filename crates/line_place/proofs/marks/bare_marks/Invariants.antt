use Rattle.std.proofs.Common.{◌≡◌, ◌++◌, ◌-◌, ◌≤◌, map, drop, length, None}
use Rattle.line_place.specs.Runs.{runs}
use Rattle.line_place.specs.Marks.{mark_of, marks_after}
use Rattle.line_place.specs.Reach.{IsBefore}
use Rattle.line_place.proofs.marks.bare_marks.Given as goal

abbrev pub invariant-loop-at : goal.invariant-loop-at
invariant-loop-at g l = record {
  all : map mark_of l.marks.items ++ marks_after l.boxes l.inside (runs (drop l.at l.leaves)) ≡ marks_after l.boxes None (runs l.leaves);
  inside : IsBefore (length l.boxes) l.inside;
  at : l.at ≤ length l.leaves;
}

abbrev pub decreases-loop-at : goal.decreases-loop-at
decreases-loop-at g l = length l.leaves - l.at
