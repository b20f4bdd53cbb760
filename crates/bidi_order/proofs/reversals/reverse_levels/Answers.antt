use Rattle.std.proofs.Common.{◌<◌, ◌∙◌, ap, arith}
use Rattle.std.specs.Prelude.{ℕ}
use Rattle.std.proofs.lemmas.List.Sorted.{IsPermutation-refl, IsPermutation-trans, length_permutation}
use Rattle.bidi_order.specs.Reversals.{greatest_below, reversals}
use Rattle.bidi_order.proofs.Levels.{below_less, between, from_greatest, own_length, own_places, reach_chosen}
use Rattle.bidi_order.proofs.reversals.reverse_levels.Goals as goal

pub loop-level-init : goal.loop-level-init
loop-level-init c = record {
  reversed = ap (λ (n : ℕ). reversals c.args.levels.now 1 n c.args.places.now) c.greatest-level.ensures ∙ from_greatest c.args.levels.now c.args.places.now;
  rearranged = IsPermutation-refl c.args.places.now;
  many = own_length c.args.levels.now c.args.places.now c.requires;
  reach = own_places c.args.levels.now c.greatest-level.result c.args.places.now c.requires;
}

pub reverse_between-requires-clause-next : goal.reverse_between-requires-clause-next
reverse_between-requires-clause-next c = rw c.greatest_below-next.ensures (below_less c.loop-level.level c.args.levels.now c.loop-level-test.true)

pub loop-level-smaller : goal.loop-level-smaller
loop-level-smaller c = rw c.greatest_below-next.ensures (below_less c.loop-level.level c.args.levels.now c.loop-level-test.true)

pub loop-level-preserved : goal.loop-level-preserved
loop-level-preserved c =
    let some : 0 < c.loop-level.level = c.loop-level-test.true in
    let next = c.greatest_below-next.ensures in
    let low : greatest_below c.loop-level.level c.args.levels.now < c.loop-level.level = below_less c.loop-level.level c.args.levels.now some in
    record {
      reversed = between c.args.levels.now c.loop-level.level c.greatest_below-next.result c.loop-level.places c.reverse_between.new.places some next c.reverse_between.ensures.reversed ∙ c.loop-level.invariant.reversed;
      rearranged = IsPermutation-trans _ _ _ c.loop-level.invariant.rearranged c.reverse_between.ensures.rearranged;
      many = length_permutation _ _ c.reverse_between.ensures.rearranged ∙ c.loop-level.invariant.many;
      reach = reach_chosen c.args.levels.now c.loop-level.level c.greatest_below-next.result _ c.loop-level.places c.reverse_between.new.places (omega arith) c.loop-level.invariant.reach c.reverse_between.ensures.reversed;
    }
