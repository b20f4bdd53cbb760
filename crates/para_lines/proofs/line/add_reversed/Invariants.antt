use Rattle.std.proofs.Common.{◌≡◌, ◌++◌, ◌≤◌, take, reverse, length}
use Rattle.para_lines.proofs.line.add_reversed.Given as goal

abbrev pub invariant-loop-left : goal.invariant-loop-left
invariant-loop-left l = (l.left ≤ length l.fresh) × (l.places.items ++ reverse (take l.left l.fresh) ≡ l.fn.places.items ++ reverse l.fresh)

abbrev pub decreases-loop-left : goal.decreases-loop-left
decreases-loop-left l = l.left
