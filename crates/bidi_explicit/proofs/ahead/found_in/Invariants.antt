use Rattle.std.proofs.Common.{◌≡◌, drop}
use Rattle.bidi_explicit.specs.Ahead.{found_before}
use Rattle.bidi_explicit.proofs.ahead.found_in.Given as goal

abbrev pub invariant-loop-class : goal.invariant-loop-class
invariant-loop-class l = found_before (drop l.class-index l.between) l.found ≡ found_before l.between l.found
