use Rattle.cascade.specs.Winners.{claims_of}
use Rattle.cascade.proofs.Greatest.{IsBestSoFar}
use Rattle.cascade.proofs.winning.put_best.Given as goal

abbrev pub invariant-loop-claim : goal.invariant-loop-claim
invariant-loop-claim l = IsBestSoFar l.mode l.dir l.claims l.claim-index (claims_of l.best)
