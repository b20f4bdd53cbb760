use Rattle.line_fill.proofs.Ending.{Seeks}
use Rattle.line_fill.proofs.filling.Reach.line_end.Given as goal

abbrev pub invariant-loop-place : goal.invariant-loop-place
invariant-loop-place l = Seeks l.available l.items l.from l.place
