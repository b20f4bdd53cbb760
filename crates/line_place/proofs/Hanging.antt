-- The Spaces at the end of a line.
use Rattle.std.proofs.Common.{◌≡◌, ◌∙◌, sym, refl, arith, Bool, true, false, ◌&&◌, leb, ℕ, zero, suc, ◌-◌, ◌<◌, ◌≤◌, List, [], ◌∷◌, length, get_or, drop}
use Rattle.line_place.specs.Line.{Item}
use Rattle.line_place.specs.Leaves.{are_spaces}
use Rattle.std.proofs.Common.{inl, inr}
use Rattle.std.proofs.lemmas.Bool.Decides.{leb_tells}
use native.Mathlib.Numerals.{unary_clauses}

-- one Space more before Spaces
space_before : (items : List Item) (n : ℕ) (d : Item) → n < length items → (get_or items n d).space ≡ true
    → are_spaces (drop (suc n) items) ≡ true → are_spaces (drop n items) ≡ true
space_before [] n d lt space after = absurd (omega arith)
space_before (item ∷ items) zero d lt space after = rw (space, after) refl
space_before (item ∷ items) (suc n) d lt space after = space_before items n d (omega arith) space after

pub one_more : (items : List Item) (n : ℕ) (d : Item) → 0 < n → n ≤ length items → (get_or items (n - 1) d).space ≡ true
    → are_spaces (drop n items) ≡ true → are_spaces (drop (n - 1) items) ≡ true
one_more items zero d low high space after = absurd (omega arith)
one_more items (suc n) d low high space after = simp unary_clauses (space_before items n d (omega arith) (simp unary_clauses at space) after)

tail_spaces : (a b : Bool) → (a && b) ≡ true → b ≡ true
tail_spaces true b h = h
tail_spaces false b h = cc

none_behind : (k : ℕ) → are_spaces (drop k []) ≡ true
none_behind zero = refl
none_behind (suc k) = refl

-- behind a place from which on there are Spaces alone, and before a place with something else behind it
pub behind : (items : List Item) (n k : ℕ) → n ≤ k → are_spaces (drop n items) ≡ true → are_spaces (drop k items) ≡ true
behind [] n k le h = none_behind k
behind (item ∷ items) zero zero le h = h
behind (item ∷ items) zero (suc k) le h = behind items zero k (omega arith) (tail_spaces item.space (are_spaces items) h)
behind (item ∷ items) (suc n) zero le h = absurd (omega arith)
behind (item ∷ items) (suc n) (suc k) le h = behind items n k (omega arith) h

pub and_false : (a b : Bool) → b ≡ false → (a && b) ≡ false
and_false true b h = h
and_false false b h = refl

before : (items : List Item) (n : ℕ) (d : Item) (k : ℕ) → n < length items → (get_or items n d).space ≡ false → k ≤ n
    → are_spaces (drop k items) ≡ false
before [] n d k lt space le = absurd (omega arith)
before (item ∷ items) zero d zero lt space le = rw space refl
before (item ∷ items) zero d (suc k) lt space le = absurd (omega arith)
before (item ∷ items) (suc n) d zero lt space le = and_false item.space _ (before items n d zero (omega arith) space (omega arith))
before (item ∷ items) (suc n) d (suc k) lt space le = before items n d k (omega arith) space (omega arith)

pub from_place : (items : List Item) (n : ℕ) (d : Item) → 0 < n → n ≤ length items → (get_or items (n - 1) d).space ≡ false
    → are_spaces (drop n items) ≡ true → (k : ℕ) → are_spaces (drop k items) ≡ leb n k
from_place items n d low high space after k =
    elim (leb_tells n k) [
      | inl (at, le) ↦ behind items n k le after ∙ sym at
      | inr (at, lt) ↦ before items (n - 1) d k (omega arith) space (omega arith) ∙ sym at
    ]

pub from_start : (items : List Item) (n : ℕ) → n ≤ 0 → are_spaces (drop n items) ≡ true → (k : ℕ) → are_spaces (drop k items) ≡ leb n k
from_start items n low after k =
    elim (leb_tells n k) [
      | inl (at, le) ↦ behind items n k le after ∙ sym at
      | inr (at, lt) ↦ absurd (omega arith)
    ]
