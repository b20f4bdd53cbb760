use Rattle.std.proofs.Common.{leb, slice_index}
use Rattle.bidi_order.specs.Reversals.{IsReversing}
use Rattle.bidi_order.proofs.reversals.reverse_level.Given as goal

abbrev pub invariant-loop-i : goal.invariant-loop-i
invariant-loop-i l = IsReversing (λ p. leb l.reach.level (slice_index l.reach.levels.now p)) l.fn.places l.places l.start l.i
