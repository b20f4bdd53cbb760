use Rattle.std.proofs.Common.{◌≡◌, ◌≤◌, ℕ, drop}
use Rattle.bidi_resolve.specs.Weak.{beside}
use Rattle.bidi_resolve.proofs.weak.beside.Given as goal

abbrev pub invariant-loop-until : goal.invariant-loop-until
invariant-loop-until l = (k : ℕ) → l.place ≤ k → k ≤ l.until → beside (drop k l.classes) ≡ beside (drop l.until l.classes)
