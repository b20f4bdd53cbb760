use Rattle.line_fill.proofs.Reaching.{Known}
use Rattle.line_fill.proofs.ahead.all_ahead.Given as goal

abbrev pub invariant-loop-place : goal.invariant-loop-place
invariant-loop-place l = Known l.items l.aheads.items l.ahead l.place

abbrev pub decreases-loop-place : goal.decreases-loop-place
decreases-loop-place l = l.place
