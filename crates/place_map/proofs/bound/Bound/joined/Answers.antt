use Rattle.std.proofs.Common.{arith}
use Rattle.std.proofs.lemmas.Int.{clamps, ints}
use Rattle.place_map.proofs.bound.Bound.joined.Goals as goal

pub returns-clause-own : goal.returns-clause-own
returns-clause-own c = record {
  left = omega (arith, ints, clamps, c.min.ensures.self_bound);
  top = omega (arith, ints, clamps, c.min-2.ensures.self_bound);
  right = omega (arith, ints, clamps, c.max.ensures.self_bound);
  bottom = omega (arith, ints, clamps, c.max-2.ensures.self_bound);
  first = omega arith;
  last = omega arith;
}

pub returns-clause-other : goal.returns-clause-other
returns-clause-other c = record {
  left = omega (arith, ints, clamps, c.min.ensures.other_bound);
  top = omega (arith, ints, clamps, c.min-2.ensures.other_bound);
  right = omega (arith, ints, clamps, c.max.ensures.other_bound);
  bottom = omega (arith, ints, clamps, c.max-2.ensures.other_bound);
  first = omega arith;
  last = omega arith;
}
