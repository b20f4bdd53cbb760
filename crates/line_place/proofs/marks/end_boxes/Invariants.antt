use Rattle.std.proofs.Common.{◌≡◌, ◌++◌, ◌+◌, map, length, false}
use Rattle.line_place.specs.Marks.{ends, left_behind, mark_of}
use Rattle.line_place.specs.Reach.{IsBefore}
use Rattle.line_place.proofs.Chains.{depth}
use Rattle.line_place.proofs.marks.end_boxes.Given as goal

abbrev pub invariant-loop-place : goal.invariant-loop-place
invariant-loop-place g l = record {
  ends : map mark_of l.marks.items ++ map (λ p. ends p false) (left_behind l.boxes l.one l.other) ≡ map mark_of l.fn.marks.items ++ map (λ p. ends p false) (left_behind l.boxes l.fn.from l.fn.to);
  fresh : l.fresh.items ++ left_behind l.boxes l.other l.one ≡ left_behind l.boxes l.fn.to l.fn.from;
  one : IsBefore (length l.boxes) l.one;
  other : IsBefore (length l.boxes) l.other;
}

abbrev pub decreases-loop-place : goal.decreases-loop-place
decreases-loop-place g l = depth l.one + depth l.other
