use Rattle.std.proofs.Common.{◌≡◌, ◌++◌, take, drop}
use Rattle.bidi_resolve.proofs.Passes.{pass}
use Rattle.bidi_resolve.specs.Weak.{w4, w4_class, next_to}
use Rattle.bidi_resolve.proofs.weak.w4_pass.Given as goal

abbrev pub invariant-loop-i : goal.invariant-loop-i
invariant-loop-i l = take l.i l.classes ++ pass (λ before c after. w4_class before c (next_to after)) (λ before c. c) l.before (drop l.i l.classes) ≡ w4 l.fn.classes
