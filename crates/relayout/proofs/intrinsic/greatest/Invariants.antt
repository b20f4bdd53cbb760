use Rattle.std.proofs.Common.{◌≡◌, drop, fold}
use Rattle.relayout.specs.Intrinsic.{greater, greatest}
use Rattle.relayout.proofs.intrinsic.greatest.Given as goal

abbrev pub invariant-loop-one : goal.invariant-loop-one
invariant-loop-one l = fold greater l.greatest (drop l.one-index l.contributions) ≡ greatest l.contributions
