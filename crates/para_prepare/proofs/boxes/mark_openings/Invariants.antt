use Rattle.std.proofs.Common.{map}
use Rattle.para_prepare.specs.Reach.{code_kind}
use Rattle.para_prepare.proofs.Ends.{Opens}
use Rattle.para_prepare.proofs.boxes.mark_openings.Given as goal

abbrev pub invariant-loop-k : goal.invariant-loop-k
invariant-loop-k l = Opens l.marks l.after l.k (map code_kind l.parts)

abbrev pub decreases-loop-k : goal.decreases-loop-k
decreases-loop-k l = l.k
