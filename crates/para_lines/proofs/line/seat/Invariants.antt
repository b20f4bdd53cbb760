use Rattle.para_lines.proofs.LineLaws.{Seating}
use Rattle.para_lines.proofs.line.seat.Given as goal

abbrev pub invariant-loop-left : goal.invariant-loop-left
invariant-loop-left l = Seating l.places l.seats.items l.fn.seats.items l.left

abbrev pub decreases-loop-left : goal.decreases-loop-left
decreases-loop-left l = l.left
