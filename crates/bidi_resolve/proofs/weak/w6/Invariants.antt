use Rattle.std.proofs.Common.{◌≡◌, ◌++◌, take, drop, map}
use Rattle.bidi_resolve.specs.Weak.{w6, w6_class}
use Rattle.bidi_resolve.proofs.weak.w6.Given as goal

abbrev pub invariant-loop-class : goal.invariant-loop-class
invariant-loop-class l = take l.class-index l.classes ++ map w6_class (drop l.class-index l.classes) ≡ w6 l.fn.classes
