use Rattle.line_fill.proofs.Forwarding.{Running}
use Rattle.line_fill.proofs.forward.forward_end.Given as goal

abbrev pub invariant-loop-place : goal.invariant-loop-place
invariant-loop-place g l = Running l.available (g.S.FillSource.items l.source) l.from l.place l.last l.piece
