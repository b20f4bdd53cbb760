use Rattle.cascade.specs.Winners.{claims_of}
use Rattle.cascade.proofs.Listing.{IsListing}
use Rattle.cascade.proofs.winning.listed.Given as goal

abbrev pub invariant-loop-row : goal.invariant-loop-row
invariant-loop-row l = IsListing (claims_of l.best) l.rows l.row-index l.winners.items
