use Rattle.std.proofs.Common.{◌≡◌, ◌≤◌, List, length}
use Rattle.std.specs.Prelude.{ℕ}
use Rattle.bidi_order.specs.Reversals.{IsReversingLine}
use Rattle.bidi_order.proofs.blocks.reverse_each.Given as goal

abbrev pub invariant-loop-i : goal.invariant-loop-i
invariant-loop-i l = record {
  reversing : (line : List ℕ) → IsReversingLine l.block.reach.levels.now l.block.reach.level line l.fn.places l.fn.start l.block.from → IsReversingLine l.block.reach.levels.now l.block.reach.level line l.places l.start l.i;
  begun : l.start ≤ l.i;
  length : length l.places ≡ length l.block.reach.levels.now;
}
