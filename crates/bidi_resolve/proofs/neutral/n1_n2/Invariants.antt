use Rattle.std.proofs.Common.{◌≡◌, ◌+◌, ◌++◌, take, drop}
use Rattle.bidi_resolve.proofs.Passes.{pass}
use Rattle.bidi_resolve.specs.Neutral.{n1, n1_class, n1_after, n2, n2_class, side}
use Rattle.bidi_resolve.specs.Sides.{Sees}
use Rattle.bidi_resolve.proofs.neutral.n1_n2.Given as goal

abbrev pub invariant-loop-i : goal.invariant-loop-i
invariant-loop-i l = record {
  passed : take l.i l.classes ++ pass (λ before c after. n2_class l.frame.level (n1_class before c (side l.frame.eos after))) n1_after l.seen.before (drop l.i l.classes) ≡ n2 l.frame.level (n1 l.frame.sos l.frame.eos l.fn.classes);
  sees : Sees (side l.frame.eos) l.classes (l.i + 1) l.seen.ahead;
}
