use Rattle.std.proofs.Common.{◌≡◌, max, drop}
use Rattle.bidi_order.specs.Reversals.{greatest_below}
use Rattle.bidi_order.proofs.reversals.greatest_below.Given as goal

abbrev pub invariant-loop-level : goal.invariant-loop-level
invariant-loop-level l = max l.best (greatest_below l.limit (drop l.level-index l.levels)) ≡ greatest_below l.limit l.levels
