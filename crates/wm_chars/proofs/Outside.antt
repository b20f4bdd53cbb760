-- Outside every row nothing is found, and what isn't found is outside every row.
use Rattle.std.proofs.Common.{◌≡◌, ℕ, zero, suc, ◌<◌, false, ◌⊎◌, inl, inr, ◌↔◌, leb, List, [], ◌∷◌, Some, None, refl, ap, arith}
use Rattle.std.specs.Prelude.{find, option_map, All}
use Rattle.std.proofs.lemmas.Bool.{and_left, and_right, and_cases, cases_Bool, lt-leb, leb-false}
use Rattle.basic_laws.proofs.Options.{none_unmapped}
use Rattle.wm_chars.specs.Laws.{AreNoneOutside, IsOutside}
use Rattle.wm_chars.specs.Repertoire.{has, row_of, bidi_class, orientation, break_class}
use Rattle.wm_chars.specs.declared.rows.Row.{Row}
use Rattle.wm_chars.specs.declared.rows.TheConstants.{ROWS}

not_in : (c : ℕ) (row : Row) → (c < row.first) ⊎ (row.last < c) → has c row ≡ false
not_in c row (inl before) = and_left (leb row.first c) (leb c row.last) (lt-leb row.first c before)
not_in c row (inr behind) = and_right (leb row.first c) (leb c row.last) (lt-leb c row.last behind)

out_of : (c : ℕ) (row : Row) → has c row ≡ false → (c < row.first) ⊎ (row.last < c)
out_of c row out = elim (and_cases (leb row.first c) (leb c row.last) out) [
  | inl before ↦ inl (leb-false row.first c before)
  | inr behind ↦ inr (leb-false c row.last behind)
]

none_found : (c : ℕ) (rows : List Row) → All (λ row. (c < row.first) ⊎ (row.last < c)) rows → find (has c) rows ≡ None
none_found c [] outside = refl
none_found c (row ∷ rows) outside =
    rw (not_in c row (outside zero row (omega arith))) (none_found c rows (λ k d lt. outside (suc k) d (omega arith)))

not_the_first : (c : ℕ) (row : Row) (rows : List Row) → find (has c) (row ∷ rows) ≡ None → (has c row ≡ false) × (find (has c) rows ≡ None)
not_the_first c row rows none = elim (cases_Bool (has c row)) [
  | inl here ↦ absurd (let found : Some row ≡ None = rw here at none in cc)
  | inr out ↦ (out, rw out at none)
]

all_outside : (c : ℕ) (rows : List Row) → find (has c) rows ≡ None → All (λ row. (c < row.first) ⊎ (row.last < c)) rows
all_outside c [] none k d lt = absurd (omega arith)
all_outside c (row ∷ rows) none zero d lt = let parts = not_the_first c row rows none in out_of c row parts.0
all_outside c (row ∷ rows) none (suc k) d lt = let parts = not_the_first c row rows none in all_outside c rows parts.1 k d (omega arith)

told_outside : {B : Type 0} (f : Row → B) (c : ℕ) → (option_map f (row_of c) ≡ None) ↔ IsOutside c
unfolding row_of
told_outside f c = ((λ none. all_outside c ROWS (none_unmapped f (find (has c) ROWS) none)), (λ outside. ap (option_map f) (none_found c ROWS outside)))

pub none_outside : AreNoneOutside
unfolding bidi_class orientation break_class
none_outside = record {
  bidi_class = told_outside (λ row. row.class);
  orientation = told_outside (λ row. row.orient);
  break_class = told_outside (λ row. row.breaks);
}
