use Rattle.std.proofs.Common.{◌≡◌, map, take}
use Rattle.relayout.proofs.intrinsic.maxs_of.Given as goal

abbrev pub invariant-loop-one : goal.invariant-loop-one
invariant-loop-one l = l.made.items ≡ map (λ a. a.max) (take l.one-index l.contributions)
