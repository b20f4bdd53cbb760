use Rattle.std.proofs.Common.{◌≡◌, ◌≤◌, map, drop, length, unsigned_abs}
use Rattle.line_place.specs.Marks.{mark_of}
use Rattle.line_place.specs.Placing.{width}
use Rattle.line_place.specs.Reach.{mark_reach, total}
use Rattle.line_place.proofs.measure.width.Given as goal

abbrev pub invariant-loop-from : goal.invariant-loop-from
invariant-loop-from g l = record {
  is : l.width ≡ width l.boxes (drop l.from (map mark_of l.marks));
  near : unsigned_abs l.width ≤ total (mark_reach l.boxes) (drop l.from (map mark_of l.marks));
  within : l.from ≤ length l.marks;
}

abbrev pub decreases-loop-from : goal.decreases-loop-from
decreases-loop-from g l = l.from
