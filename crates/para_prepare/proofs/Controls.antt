-- The bidi controls of the repertoire, character by character.
use Rattle.std.proofs.Common.{◌≡◌, ℕ, zero, suc, ◌+◌, ◌-◌, ◌<◌, ◌≤◌, Bool, true, false, ◌&&◌, ◌||◌, leb, List, [], ◌∷◌, Some, inl, inr, ◌⊎◌, subst, sym, ◌∙◌, refl, arith}
use Rattle.std.specs.Prelude.{find, option_map}
use Rattle.std.specs.List.{list_any}
use Rattle.std.proofs.lemmas.Bool.{cases_Bool}
use Rattle.std.proofs.lemmas.Grind.{common_steps}
use Rattle.cluster_units.specs.Cluster.{is_control, is_control_class}
use Rattle.wm_chars.specs.Repertoire.{row_of, break_class}
use Rattle.wm_chars.specs.declared.classes.BreakClass.{BreakClass}
use Rattle.para_prepare.specs.Marks.{is_bidi_control}

-- a character that is found in a row of controls is in some row of controls
found_among : {Row : Type 0} (has : Row → Bool) (class : Row → BreakClass) (rows : List Row)
    → is_control_class (option_map class (find has rows)) ≡ true → list_any (λ row. is_control_class (Some (class row)) && has row) rows ≡ true
found_among has class [] e = e
found_among has class (row ∷ rows) e = elim (cases_Bool (has row)) [
  | inl here ↦ let control : is_control_class (Some (class row)) ≡ true = rw here at e in rw (control, here) refl
  | inr out ↦ let rest : is_control_class (option_map class (find has rows)) ≡ true = rw out at e in
      elim (cases_Bool (is_control_class (Some (class row)) && has row)) [
        | inl first ↦ rw first refl
        | inr other ↦ rw other (found_among has class rows rest)
      ]
]

abbrev is_at : (place c : ℕ) → Bool
is_at place c = leb place c && leb c place

in_some_row : (c : ℕ) → is_control c ≡ true
    → (is_at 0x61C c || (is_at 0x200E c || (is_at 0x200F c || (is_at 0x202A c || (is_at 0x202B c || (is_at 0x202C c || (is_at 0x202D c
    || (is_at 0x202E c || (is_at 0x2066 c || (is_at 0x2067 c || (is_at 0x2068 c || (is_at 0x2069 c || false)))))))))))) ≡ true
unfolding break_class row_of
in_some_row c e = search (found_among)

two : (k : ℕ) → k < 2 → is_control (0x200E + k) ≡ true
unfolding break_class row_of
two zero lt = refl
two (suc zero) lt = refl
two (suc (suc k)) lt = absurd (omega arith)

five : (k : ℕ) → k < 5 → is_control (0x202A + k) ≡ true
unfolding break_class row_of
five zero lt = refl
five (suc zero) lt = refl
five (suc (suc zero)) lt = refl
five (suc (suc (suc zero))) lt = refl
five (suc (suc (suc (suc zero)))) lt = refl
five (suc (suc (suc (suc (suc k))))) lt = absurd (omega arith)

four : (k : ℕ) → k < 4 → is_control (0x2066 + k) ≡ true
unfolding break_class row_of
four zero lt = refl
four (suc zero) lt = refl
four (suc (suc zero)) lt = refl
four (suc (suc (suc zero))) lt = refl
four (suc (suc (suc (suc k)))) lt = absurd (omega arith)

one : is_control 0x61C ≡ true
unfolding break_class row_of
one = refl

from_to : (c first many : ℕ) → ((k : ℕ) → k < many → is_control (first + k) ≡ true) → first ≤ c → c < first + many → is_control c ≡ true
from_to c first many all low high =
    let is : first + (c - first) ≡ c = omega arith in
    subst (λ c. is_control c ≡ true) is (all (c - first) (omega arith))

abbrev Named : ℕ → Type 0
Named c = (c ≡ 0x61C) ⊎ (((0x200E ≤ c) × (c ≤ 0x200F)) ⊎ (((0x202A ≤ c) × (c ≤ 0x202E)) ⊎ ((0x2066 ≤ c) × (c ≤ 0x2069))))

named : (c : ℕ) → is_bidi_control c ≡ true → Named c
named c e = grind (arith, common_steps)

named_control : (c : ℕ) → Named c → is_control c ≡ true
named_control c (inl is) = subst (λ c. is_control c ≡ true) (sym is) one
named_control c (inr (inl is)) = from_to c 0x200E 2 two is.0 (omega (arith, is.1))
named_control c (inr (inr (inl is))) = from_to c 0x202A 5 five is.0 (omega (arith, is.1))
named_control c (inr (inr (inr is))) = from_to c 0x2066 4 four is.0 (omega (arith, is.1))

pub controls_are : (c : ℕ) → is_bidi_control c ≡ is_control c
controls_are c = elim (cases_Bool (is_bidi_control c)) [
  | inl is ↦ is ∙ sym (named_control c (named c is))
  | inr other ↦ elim (cases_Bool (is_control c)) [
    | inl is ↦ let row = in_some_row c is in grind (arith, common_steps)
    | inr apart ↦ other ∙ sym apart
  ]
]
