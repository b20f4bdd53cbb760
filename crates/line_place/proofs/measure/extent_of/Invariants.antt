use Rattle.std.proofs.Common.{◌≡◌, ◌≤◌, drop, length, unsigned_abs}
use Rattle.line_place.specs.Placing.{extent_of}
use Rattle.line_place.specs.Reach.{leaf_reach, total}
use Rattle.line_place.proofs.measure.extent_of.Given as goal

abbrev pub invariant-loop-from : goal.invariant-loop-from
invariant-loop-from g l = record {
  is : l.extent ≡ extent_of (drop l.from l.run);
  near : unsigned_abs l.extent ≤ total leaf_reach (drop l.from l.run);
  within : l.from ≤ length l.run;
}

abbrev pub decreases-loop-from : goal.decreases-loop-from
decreases-loop-from g l = l.from
