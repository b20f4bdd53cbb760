use Rattle.std.proofs.Common.{◌≤◌, ◌-◌, length}
use Rattle.bidi_order.specs.Reversals.{IsReversingLine}
use Rattle.bidi_order.proofs.blocks.reverse_by_blocks.Given as goal

abbrev pub invariant-loop-from : goal.invariant-loop-from
invariant-loop-from l = record {
  reversing : IsReversingLine l.reach.levels.now l.reach.level l.fn.places l.places l.start l.from;
  within : l.from ≤ length l.reach.levels.now;
}

abbrev pub decreases-loop-from : goal.decreases-loop-from
decreases-loop-from l = length l.reach.levels.now - l.from
