use Rattle.std.proofs.Common.{◌≡◌, ◌++◌, take, drop, map}
use Rattle.bidi_resolve.specs.Weak.{w3, w3_class}
use Rattle.bidi_resolve.proofs.weak.w3.Given as goal

abbrev pub invariant-loop-class : goal.invariant-loop-class
invariant-loop-class l = take l.class-index l.classes ++ map w3_class (drop l.class-index l.classes) ≡ w3 l.fn.classes
