use Rattle.std.proofs.Common.{◌≡◌, ◌++◌, take, drop}
use Rattle.bidi_resolve.proofs.Passes.{pass}
use Rattle.bidi_resolve.specs.Weak.{w1, w1_class, w1_after}
use Rattle.bidi_resolve.proofs.weak.w1_pass.Given as goal

abbrev pub invariant-loop-class : goal.invariant-loop-class
invariant-loop-class l = take l.class-index l.classes ++ pass (λ handed c after. w1_class handed c) w1_after l.handed (drop l.class-index l.classes) ≡ w1 l.fn.sos l.fn.classes
