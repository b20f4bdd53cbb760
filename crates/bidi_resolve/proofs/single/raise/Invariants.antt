use Rattle.std.proofs.Common.{◌≡◌, ◌++◌, take, drop}
use Rattle.bidi_resolve.specs.Neutral.{i1_i2}
use Rattle.bidi_resolve.proofs.single.raise.Given as goal

abbrev pub invariant-loop-i : goal.invariant-loop-i
invariant-loop-i l = take l.i l.levels ++ i1_i2 l.frame.level (drop l.i l.classes) ≡ i1_i2 l.frame.level l.classes
