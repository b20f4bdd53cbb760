use Rattle.std.proofs.Common.{◌≡◌, ◌≤◌, ℕ, drop}
use Rattle.bidi_resolve.specs.Neutral.{side}
use Rattle.bidi_resolve.proofs.neutral.side.Given as goal

abbrev pub invariant-loop-until : goal.invariant-loop-until
invariant-loop-until l = (k : ℕ) → l.place ≤ k → k ≤ l.until → side l.eos (drop k l.classes) ≡ side l.eos (drop l.until l.classes)
