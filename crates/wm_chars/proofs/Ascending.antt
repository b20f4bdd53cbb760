-- Rows that ascend: where the search by halves ends, there stands the row that has the character.
use Rattle.std.proofs.Common.{◌≡◌, ℕ, zero, suc, ◌<◌, ◌≤◌, Bool, true, false, ◌&&◌, leb, cond, List, [], ◌∷◌, length, slice_index_or, Option, Some, None, inl, inr, ap, ◌∙◌, refl, arith}
use Rattle.std.specs.Prelude.{find, slice_get, AllPairs}
use Rattle.std.specs.List.{AllWithin}
use Rattle.std.specs.List.Sorted.{IsNonDecreasingBy}
use Rattle.std.proofs.lemmas.Bool.{and_parts, and_right, cases_Bool, leb-true, leb-false, lt-leb, le-leb}
use Rattle.std.proofs.lemmas.Option.{slice_get_past, slice_get_read}
use Rattle.wm_chars.specs.Repertoire.{has, row_of, DividesAt}
use Rattle.wm_chars.specs.declared.rows.Row.{Row}
use Rattle.wm_chars.specs.declared.rows.TheConstants.{ROWS}

-- each row is a range that begins at or above the floor, and the next one begins above its end
abbrev climbs : ℕ → List Row → Bool
climbs floor [] = true
climbs floor (row ∷ rows) = leb floor row.first && (leb row.first row.last && climbs (suc row.last) rows)

record Climb (floor : ℕ) (row : Row) (rows : List Row) : Type 0 where
  begins : floor ≤ row.first
  ends : row.first ≤ row.last
  rest : climbs (suc row.last) rows ≡ true

climb : (floor : ℕ) (row : Row) (rows : List Row) → climbs floor (row ∷ rows) ≡ true → Climb floor row rows
climb floor row rows up =
    let outer = and_parts (leb floor row.first) (leb row.first row.last && climbs (suc row.last) rows) up in
    let inner = and_parts (leb row.first row.last) (climbs (suc row.last) rows) outer.1 in
    record { begins = leb-true _ _ outer.0; ends = leb-true _ _ inner.0; rest = inner.1 }

pub the_rows_climb : climbs 0 ROWS ≡ true
the_rows_climb = refl

-- ---- every row is a range above the floor, and the rows ascend

pub row_at : (floor : ℕ) (rows : List Row) → climbs floor rows ≡ true → (k : ℕ) (d : Row) → k < length rows → (floor ≤ (slice_index_or rows k d).first) × ((slice_index_or rows k d).first ≤ (slice_index_or rows k d).last)
row_at floor [] up k d lt = absurd (omega arith)
row_at floor (row ∷ rows) up zero d lt = let here = climb floor row rows up in (here.begins, here.ends)
row_at floor (row ∷ rows) up (suc k) d lt =
    let here = climb floor row rows up in
    let later = row_at (suc row.last) rows here.rest k d (omega arith) in
    (omega arith, later.1)

pub apart : (floor : ℕ) (rows : List Row) → climbs floor rows ≡ true → AllPairs (λ earlier later. earlier.last < later.first) rows
apart floor [] up i j d lt below = absurd (omega arith)
apart floor (row ∷ rows) up i zero d lt below = absurd (omega arith)
apart floor (row ∷ rows) up zero (suc j) d lt below =
    let here = climb floor row rows up in
    let later = row_at (suc row.last) rows here.rest j d (omega arith) in
    later.0
apart floor (row ∷ rows) up (suc i) (suc j) d lt below =
    let here = climb floor row rows up in
    apart (suc row.last) rows here.rest i j d (omega arith) (omega arith)

pub ends_ascend : (floor : ℕ) (rows : List Row) → climbs floor rows ≡ true → IsNonDecreasingBy (λ row. row.last) rows
ends_ascend floor [] up i j d le below = absurd (omega arith)
ends_ascend floor (row ∷ rows) up zero zero d le below = omega arith
ends_ascend floor (row ∷ rows) up (suc i) zero d le below = absurd (omega arith)
ends_ascend floor (row ∷ rows) up zero (suc j) d le below =
    let here = climb floor row rows up in
    let later = row_at (suc row.last) rows here.rest j d (omega arith) in
    omega arith
ends_ascend floor (row ∷ rows) up (suc i) (suc j) d le below =
    let here = climb floor row rows up in
    ends_ascend (suc row.last) rows here.rest i j d (omega arith) (omega arith)

-- ---- the row that has a character

-- no row that begins above the character has it
none_above : (c floor : ℕ) (rows : List Row) → c < floor → climbs floor rows ≡ true → find (has c) rows ≡ None
none_above c floor [] lt up = refl
none_above c floor (row ∷ rows) lt up =
    let here = climb floor row rows up in
    let out : leb row.first c ≡ false = lt-leb row.first c (omega arith) in
    rw out (none_above c (suc row.last) rows (omega arith) here.rest)

-- whichever row has it is found
pub found : (c floor : ℕ) (rows : List Row) → climbs floor rows ≡ true → (k : ℕ) (d : Row) → k < length rows → has c (slice_index_or rows k d) ≡ true → find (has c) rows ≡ Some (slice_index_or rows k d)
found c floor [] up k d lt h = absurd (omega arith)
found c floor (row ∷ rows) up zero d lt h = rw h refl
found c floor (row ∷ rows) up (suc k) d lt h =
    let here = climb floor row rows up in
    let later = row_at (suc row.last) rows here.rest k d (omega arith) in
    let inside : (leb (slice_index_or rows k d).first c ≡ true) × (leb c (slice_index_or rows k d).last ≡ true) = and_parts _ _ h in
    let above : row.last < c = omega (arith, later.0, leb-true _ _ inside.0) in
    let out : leb c row.last ≡ false = lt-leb c row.last above in
    rw (and_right (leb row.first c) (leb c row.last) out) (found c (suc row.last) rows here.rest k d (omega arith) h)

-- what is left to see at the first row that doesn't end before the character
abbrev begun : ℕ → Option Row → Option Row
begun c None = None
begun c (Some row) = cond (leb row.first c) (Some row) None

found_from : (c floor : ℕ) (rows : List Row) (place : ℕ) → climbs floor rows ≡ true → AllWithin (λ row. row.last < c) rows 0 place → AllWithin (λ row. c ≤ row.last) rows place (length rows) → find (has c) rows ≡ begun c (slice_get rows place)
found_from c floor [] place up before behind = refl
found_from c floor (row ∷ rows) zero up before behind =
    let here = climb floor row rows up in
    let reaches : leb c row.last ≡ true = le-leb c row.last (behind zero row (omega arith) (omega arith)) in
    elim (cases_Bool (leb row.first c)) [
      | inl begins ↦ rw (reaches, begins) refl
      | inr not_yet ↦ rw not_yet (none_above c (suc row.last) rows (omega (arith, leb-false row.first c not_yet)) here.rest)
    ]
found_from c floor (row ∷ rows) (suc place) up before behind =
    let here = climb floor row rows up in
    let above : row.last < c = before zero row (omega arith) (omega arith) in
    let out : leb c row.last ≡ false = lt-leb c row.last above in
    rw (and_right (leb row.first c) (leb c row.last) out)
    (found_from c (suc row.last) rows place here.rest (λ k d low high. before (suc k) d (omega arith) (omega arith)) (λ k d low high. behind (suc k) d (omega arith) (omega arith)))

-- ---- the row of a character, by where the table divides

row_from : (c place : ℕ) → DividesAt c place → row_of c ≡ begun c (slice_get ROWS place)
unfolding row_of
row_from c place at = found_from c 0 ROWS place the_rows_climb at.before at.behind

pub past_the_rows : (c place : ℕ) → DividesAt c place → length ROWS ≤ place → row_of c ≡ None
past_the_rows c place at past = row_from c place at ∙ ap (begun c) (slice_get_past ROWS place past)

at_row : (c place : ℕ) (row : Row) → DividesAt c place → place < length ROWS → row ≡ slice_index_or ROWS place row → row_of c ≡ begun c (Some row)
at_row c place row at lt is = row_from c place at ∙ ap (begun c) (slice_get_read ROWS (length ROWS) place row refl lt is)

pub in_the_row : (c place : ℕ) (row : Row) → DividesAt c place → place < length ROWS → row ≡ slice_index_or ROWS place row → row.first ≤ c → row_of c ≡ Some row
in_the_row c place row at lt is begins = let test : leb row.first c ≡ true = le-leb row.first c begins in at_row c place row at lt is ∙ rw test refl

pub before_the_row : (c place : ℕ) (row : Row) → DividesAt c place → place < length ROWS → row ≡ slice_index_or ROWS place row → c < row.first → row_of c ≡ None
before_the_row c place row at lt is below = let test : leb row.first c ≡ false = lt-leb row.first c below in at_row c place row at lt is ∙ rw test refl

pub the_row_found : (c k : ℕ) (d : Row) → k < length ROWS → has c (slice_index_or ROWS k d) ≡ true → row_of c ≡ Some (slice_index_or ROWS k d)
unfolding row_of
the_row_found c k d lt h = found c 0 ROWS the_rows_climb k d lt h
