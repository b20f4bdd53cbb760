use Rattle.std.proofs.Common.{length}
use Rattle.cascade.proofs.matching.+behind_chain.Given as goal

abbrev pub decreases-behind_chain : goal.decreases-behind_chain
decreases-behind_chain l = length l.parts.now
