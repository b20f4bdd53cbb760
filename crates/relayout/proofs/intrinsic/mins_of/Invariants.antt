use Rattle.std.proofs.Common.{◌≡◌, map, take}
use Rattle.relayout.proofs.intrinsic.mins_of.Given as goal

abbrev pub invariant-loop-one : goal.invariant-loop-one
invariant-loop-one l = l.made.items ≡ map (λ a. a.min) (take l.one-index l.contributions)
