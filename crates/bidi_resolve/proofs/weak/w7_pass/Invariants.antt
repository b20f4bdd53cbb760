use Rattle.std.proofs.Common.{◌≡◌, ◌++◌, take, drop}
use Rattle.bidi_resolve.proofs.Passes.{pass}
use Rattle.bidi_resolve.specs.Weak.{w7, w7_class, w7_after}
use Rattle.bidi_resolve.proofs.weak.w7_pass.Given as goal

abbrev pub invariant-loop-i : goal.invariant-loop-i
invariant-loop-i l = take l.i l.classes ++ pass (λ last c after. w7_class last c) w7_after l.last (drop l.i l.classes) ≡ w7 l.fn.sos l.fn.classes
