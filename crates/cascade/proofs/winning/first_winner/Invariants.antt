use Rattle.cascade.specs.Winners.{claim_of}
use Rattle.cascade.proofs.Greatest.{IsFirst}
use Rattle.cascade.proofs.winning.first_winner.Given as goal

abbrev pub invariant-loop-claim : goal.invariant-loop-claim
invariant-loop-claim l = IsFirst l.property l.claims l.claim-index (claim_of l.best)
