use Rattle.std.proofs.Common.{◌≡◌, ◌++◌, ◌≤◌, map, take, reverse, length, false}
use Rattle.line_place.specs.Marks.{begins, mark_of}
use Rattle.line_place.proofs.marks.begin_boxes.Given as goal

abbrev pub invariant-loop-left : goal.invariant-loop-left
invariant-loop-left g l =
    (l.left ≤ length l.fresh)
    × (map mark_of l.marks.items ++ map (λ p. begins p false) (reverse (take l.left l.fresh)) ≡ map mark_of l.fn.marks.items ++ map (λ p. begins p false) (reverse l.fresh))

abbrev pub decreases-loop-left : goal.decreases-loop-left
decreases-loop-left g l = l.left
