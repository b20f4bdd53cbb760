use Rattle.std.proofs.Common.{◌≡◌, max, drop}
use Rattle.bidi_order.specs.Reversals.{greatest}
use Rattle.bidi_order.proofs.reversals.greatest.Given as goal

abbrev pub invariant-loop-level : goal.invariant-loop-level
invariant-loop-level l = max l.best (greatest (drop l.level-index l.levels)) ≡ greatest l.levels
