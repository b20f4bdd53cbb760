-- A run that is looked through up to the place behind it.
use Rattle.std.proofs.Common.{◌≡◌, ◌∙◌, ap, arith, inl, inr, ℕ, ◌+◌, ◌<◌, ◌≤◌, List, ◌∷◌, length, get_or, drop}
use Rattle.std.proofs.lemmas.List.{drop_more}
use Rattle.std.proofs.lemmas.Bool.{cases_lt}

-- one element further, where it lets what stands behind it be seen
pub sees_more : {X : Type 0} (side : List X → X) (xs : List X) (from j : ℕ) (d : X) → j < length xs →
    side (get_or xs j d ∷ drop (j + 1) xs) ≡ side (drop (j + 1) xs) →
    ((k : ℕ) → from ≤ k → k ≤ j → side (drop k xs) ≡ side (drop j xs)) →
    (k : ℕ) → from ≤ k → k ≤ j + 1 → side (drop k xs) ≡ side (drop (j + 1) xs)
sees_more side xs from j d lt through same k low high = elim (cases_lt j k) [
  | inl last ↦ ap (λ (n : ℕ). side (drop n xs)) (let e : k ≡ j + 1 = omega arith in e)
  | inr before ↦ same k low before ∙ ap side (drop_more xs j d lt) ∙ through
]

-- the element behind the run
pub sees_end : {X : Type 0} (side : List X → X) (xs : List X) (from j : ℕ) (d r : X) → j < length xs →
    side (get_or xs j d ∷ drop (j + 1) xs) ≡ r →
    ((k : ℕ) → from ≤ k → k ≤ j → side (drop k xs) ≡ side (drop j xs)) →
    (k : ℕ) → from ≤ k → k ≤ j → side (drop k xs) ≡ r
sees_end side xs from j d r lt shown same k low high = same k low high ∙ ap side (drop_more xs j d lt) ∙ shown
