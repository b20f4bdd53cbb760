use Rattle.std.proofs.Common.{◌≡◌, false, drop}
use Rattle.bidi_explicit.specs.Ahead.{rights}
use Rattle.bidi_explicit.proofs.ahead.has_fsi.Given as goal

abbrev pub invariant-loop-class : goal.invariant-loop-class
invariant-loop-class l = l.has ≡ false → rights l.classes ≡ rights (drop l.class-index l.classes)
