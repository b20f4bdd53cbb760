-- Texts that are pushed one after the other.
use Rattle.std.proofs.Common.{◌≡◌, ◌∙◌, ap, ℕ, List, ◌++◌, append_assoc}

pub two_pushed : (old mid new a b : List ℕ) → mid ≡ old ++ a → new ≡ mid ++ b → new ≡ old ++ (a ++ b)
two_pushed old mid new a b p q = q ∙ ap (λ (l : List ℕ). l ++ b) p ∙ append_assoc old a b
