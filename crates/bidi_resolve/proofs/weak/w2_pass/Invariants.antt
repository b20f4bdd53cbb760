use Rattle.std.proofs.Common.{◌≡◌, ◌++◌, take, drop}
use Rattle.bidi_resolve.proofs.Passes.{pass}
use Rattle.bidi_resolve.specs.Weak.{w2, w2_class, w2_after}
use Rattle.bidi_resolve.proofs.weak.w2_pass.Given as goal

abbrev pub invariant-loop-i : goal.invariant-loop-i
invariant-loop-i l = take l.i l.classes ++ pass (λ last c after. w2_class last c) w2_after l.last (drop l.i l.classes) ≡ w2 l.fn.sos l.fn.classes
