use Rattle.std.proofs.Common.{◌≡◌, take}
use Rattle.listing.specs.Runs.{end_of, first_of}
use Rattle.listing.proofs.runs.bounds_of.Given as goal

abbrev pub invariant-loop-k : goal.invariant-loop-k
invariant-loop-k l = (l.bounds.first ≡ first_of (take l.k l.units)) × (l.bounds.end ≡ end_of (take l.k l.units))
