use Rattle.std.proofs.Common.{◌≡◌, length}
use Rattle.std.specs.List.Sorted.{IsPermutation}
use Rattle.bidi_order.specs.Reversals.{ReachTheSame, from_least_odd, least_odd, reversals}
use Rattle.bidi_order.proofs.reversals.reverse_levels.Given as goal

abbrev pub invariant-loop-level : goal.invariant-loop-level
invariant-loop-level l = record {
  reversed : reversals l.levels 1 l.level l.places ≡ from_least_odd l.levels (least_odd l.levels) l.fn.places;
  rearranged : IsPermutation l.fn.places l.places;
  many : length l.places ≡ length l.levels;
  reach : ReachTheSame l.levels l.level l.places;
}

abbrev pub decreases-loop-level : goal.decreases-loop-level
decreases-loop-level l = l.level
