use Rattle.std.proofs.Common.{◌≡◌, ◌+◌, ◌++◌, take, drop}
use Rattle.bidi_resolve.proofs.Passes.{pass}
use Rattle.bidi_resolve.specs.Weak.{w5, w5_class, w5_after, beside}
use Rattle.bidi_resolve.specs.Sides.{Sees}
use Rattle.bidi_resolve.proofs.weak.w5_pass.Given as goal

abbrev pub invariant-loop-i : goal.invariant-loop-i
invariant-loop-i l = record {
  passed : take l.i l.classes ++ pass (λ before c after. w5_class before c (beside after)) w5_after l.before (drop l.i l.classes) ≡ w5 l.fn.classes;
  sees : Sees beside l.classes (l.i + 1) l.ahead;
}
