use Rattle.std.proofs.Common.{arith}
use Rattle.std.proofs.lemmas.Int.{ints, clamps}
use Rattle.margin_collapse.proofs.Extremes.{greatest_append, least_append}
use Rattle.margin_collapse.proofs.margins.Margins.join.Goals as goal

pub returns-clause-lists : goal.returns-clause-lists
returns-clause-lists c = λ xs ys p q. record {
  positive = let g = greatest_append xs ys in omega (arith, ints, clamps, g, c.max.ensures.value, p.positive, q.positive);
  negative = let l = least_append xs ys in omega (arith, ints, clamps, l, c.min.ensures.value, p.negative, q.negative);
}
