-- Rows that ascend: where the search by halves ends, there stands the character's row, or it belongs there.
use Rattle.std.proofs.Common.{◌≡◌, ℕ, suc, ◌+◌, ◌<◌, ◌≤◌, Bool, true, false, true≢false, ◌==◌, nat_lt, List, [], ◌∷◌, ◌++◌, length, take, drop, slice_index_or, slice_set, Some, None, inl, inr, ap, ap₂, subst, sym, ◌∙◌, refl, arith, length-append, length-drop, drop-cons}
use Rattle.std.specs.Prelude.{find, filter, insert, is_some, unwrap_or, All}
use Rattle.std.specs.List.{AllWithin}
use Rattle.std.specs.List.Sorted.{IsNonDecreasingBy}
use Rattle.std.specs.Prelude.{slice_get}
use Rattle.std.proofs.lemmas.Bool.{cases_lt, cases_Bool, ne_eqb, eqb-false, eqb-true, eq-eqb, ltb-true, lt-ltb, le-ltb}
use Rattle.std.proofs.lemmas.Option.{slice_get_within, slice_get_cases, get_or_from_slice_get, none-some}
use Rattle.std.proofs.lemmas.List.{take-append-drop, get_or-take, get_or-drop, set_split, drop_all, append-nil, length-take-le, length-take, length-set}
use Rattle.std.proofs.lemmas.List.Elements.{filter-append, All-nil, All-cons, All-append, All-filter, filter_passes}
use Rattle.std.proofs.lemmas.List.Kept.{AllPairs-cons, AllPairs-filter}
use Rattle.face_api.specs.Rows.{DividesAt}
use Rattle.face_api.specs.Table.{Ascend, AreRows, rank, rank_of, row_for, rows_with}
use Rattle.face_api.specs.declared.row.Row.{Row}

-- ---- filters on lists that all pass, or of which none does

filter_all : {X : Type 0} (p : X → Bool) (xs : List X) → All (λ x. p x ≡ true) xs → filter p xs ≡ xs
filter_all p [] all = refl
filter_all p (x ∷ xs) all =
    let head : p x ≡ true = all 0 x (omega arith) in
    rw head (ap (λ ys. x ∷ ys) (filter_all p xs (λ k d lt. all (suc k) d (omega arith))))

filter_none : {X : Type 0} (p : X → Bool) (xs : List X) → All (λ x. p x ≡ false) xs → filter p xs ≡ []
filter_none p [] all = refl
filter_none p (x ∷ xs) all =
    let head : p x ≡ false = all 0 x (omega arith) in
    rw head (filter_none p xs (λ k d lt. all (suc k) d (omega arith)))

find_past : {X : Type 0} (p : X → Bool) (xs ys : List X) → All (λ x. p x ≡ false) xs → find p (xs ++ ys) ≡ find p ys
find_past p [] ys all = refl
find_past p (x ∷ xs) ys all =
    let head : p x ≡ false = all 0 x (omega arith) in
    rw head (find_past p xs ys (λ k d lt. all (suc k) d (omega arith)))

find_none : {X : Type 0} (p : X → Bool) (xs : List X) → All (λ x. p x ≡ false) xs → find p xs ≡ None
find_none p [] all = refl
find_none p (x ∷ xs) all =
    let head : p x ≡ false = all 0 x (omega arith) in
    rw head (find_none p xs (λ k d lt. all (suc k) d (omega arith)))

-- ---- the rows before a place and those from there on

pub non_decreasing : (rows : List Row) → Ascend rows → IsNonDecreasingBy rank_of rows
non_decreasing rows up i j d le below =
    elim (cases_lt i j) [
      | inl lt ↦ let step = up i j d lt below in omega arith
      | inr ge ↦ let same : i ≡ j = omega arith in subst (λ k. rank_of (slice_index_or rows i d) ≤ rank_of (slice_index_or rows k d)) same (omega arith)
    ]

pub all_before : (P : Row → Type 0) (rows : List Row) (place : ℕ) → place ≤ length rows → AllWithin P rows 0 place → All P (take place rows)
all_before P rows place within all k d lt =
    let short : k < place = omega (arith, length-take-le place rows within) in
    subst P (sym (get_or-take place rows k d short)) (all k d (omega arith) short)

pub all_behind : (P : Row → Type 0) (rows : List Row) (place : ℕ) → AllWithin P rows place (length rows) → All P (drop place rows)
all_behind P rows place all k d lt =
    let inside : place + k < length rows = omega (arith, length-drop place rows) in
    subst P (sym (get_or-drop place rows k d)) (all (place + k) d (omega arith) inside)

split : (rows : List Row) (place : ℕ) (row : Row) → slice_get rows place ≡ Some row → drop place rows ≡ row ∷ drop (suc place) rows
split rows place row at =
    drop-cons rows place row (slice_get_within rows place row at) ∙ ap (λ x. x ∷ drop (suc place) rows) (get_or_from_slice_get rows place row row at)

-- each row past the place stands after the row at the place
past : (rows : List Row) (place : ℕ) (row : Row) → Ascend rows → slice_get rows place ≡ Some row → All (λ other. rank_of row < rank_of other) (drop (suc place) rows)
past rows place row up at k d lt =
    let inside : suc place + k < length rows = omega (arith, length-drop (suc place) rows) in
    let here = get_or_from_slice_get rows place row d at in
    let after : rank_of (slice_index_or rows place d) < rank_of (slice_index_or rows (suc place + k) d) = up place (suc place + k) d (omega arith) inside in
    subst (λ other. rank_of row < rank_of other) (sym (get_or-drop (suc place) rows k d))
    (subst (λ first. rank_of first < rank_of (slice_index_or rows (suc place + k) d)) here after)

-- ---- the row of a character, by what stands at the place

from_place : (rows : List Row) (at place : ℕ) → DividesAt rows at place → find (λ row. rank_of row == at) rows ≡ find (λ row. rank_of row == at) (drop place rows)
from_place rows at place divides =
    ap (find (λ row. rank_of row == at)) (sym (take-append-drop place rows))
    ∙ find_past (λ row. rank_of row == at) (take place rows) (drop place rows) (λ k d lt. let less = divides.before k d lt in ne_eqb _ _ (λ same. absurd (omega arith)))

past_all : (rows : List Row) (place : ℕ) → slice_get rows place ≡ None → length rows ≤ place
past_all rows place none =
    elim (slice_get_cases rows place).1 [
      | inl found ↦ absurd (none-some found.0 (sym none ∙ found.2))
      | inr beyond ↦ beyond.0
    ]

pub none_past : (rows : List Row) (c : ℕ) (upright : Bool) (place : ℕ) → DividesAt rows (rank c upright) place → slice_get rows place ≡ None → row_for rows c upright ≡ None
none_past rows c upright place divides none =
    from_place rows (rank c upright) place divides ∙ ap (find (λ row. rank_of row == rank c upright)) (drop_all place rows (past_all rows place none))

pub found_here : (rows : List Row) (c : ℕ) (upright : Bool) (place : ℕ) (row : Row) → DividesAt rows (rank c upright) place → slice_get rows place ≡ Some row → (rank_of row == rank c upright) ≡ true → row_for rows c upright ≡ Some row
found_here rows c upright place row divides at same =
    from_place rows (rank c upright) place divides ∙ ap (find (λ row. rank_of row == rank c upright)) (split rows place row at) ∙ rw same refl

at_place : (rows : List Row) (at place : ℕ) (row : Row) → DividesAt rows at place → slice_get rows place ≡ Some row → at ≤ rank_of row
at_place rows at place row divides is =
    let behind = subst (All (λ row. at ≤ rank_of row)) (split rows place row is) divides.behind in
    behind 0 row (omega arith)

pub missing_here : (rows : List Row) (c : ℕ) (upright : Bool) (place : ℕ) (row : Row) → Ascend rows → DividesAt rows (rank c upright) place → slice_get rows place ≡ Some row → (rank_of row == rank c upright) ≡ false → row_for rows c upright ≡ None
missing_here rows c upright place row up divides is other =
    let at_least : rank c upright ≤ rank_of row = at_place rows (rank c upright) place row divides is in
    let differ : rank_of row ≡ rank c upright → ⊥ = eqb-false _ _ other in
    from_place rows (rank c upright) place divides ∙ ap (find (λ row. rank_of row == rank c upright)) (split rows place row is)
    ∙ rw other (find_none _ (drop (suc place) rows) (λ k d lt. let after = past rows place row up is k d lt in ne_eqb _ _ (λ same. differ (omega arith))))

-- ---- the rows with one more, or with one in the place of another

-- the row at the place, if the character has one, is the character's
pub found_is : (rows : List Row) (c : ℕ) (upright : Bool) (place : ℕ) → Ascend rows → DividesAt rows (rank c upright) place → is_some (row_for rows c upright) ≡ true
    → (row : Row) × (slice_get rows place ≡ Some row) × (rank_of row ≡ rank c upright)
found_is rows c upright place up divides found =
    elim (slice_get_cases rows place).1 [
      | inl at ↦ elim (cases_Bool (rank_of at.0 == rank c upright)) [
        | inl same ↦ (at.0, at.2, eqb-true _ _ same)
        | inr other ↦ absurd (true≢false (sym found ∙ ap is_some (missing_here rows c upright place at.0 up divides at.2 other)))
      ]
      | inr beyond ↦ absurd (true≢false (sym found ∙ ap is_some (none_past rows c upright place divides beyond.1)))
    ]

-- a filter of the rows round the place
front_is : (rows : List Row) (row : Row) (place : ℕ) → DividesAt rows (rank_of row) place → filter (λ other. nat_lt (rank_of other) (rank_of row)) rows ≡ take place rows
front_is rows row place divides =
    let test = λ (other : Row). nat_lt (rank_of other) (rank_of row) in
    ap (filter test) (sym (take-append-drop place rows)) ∙ filter-append test (take place rows) (drop place rows)
    ∙ ap₂ ◌++◌ (filter_all test (take place rows) (λ k d lt. lt-ltb _ _ (divides.before k d lt)))
    (filter_none test (drop place rows) (λ k d lt. le-ltb _ _ (divides.behind k d lt)))
    ∙ append-nil (take place rows)

back_is : (rows : List Row) (row : Row) (place : ℕ) → DividesAt rows (rank_of row) place → filter (λ other. nat_lt (rank_of row) (rank_of other)) rows ≡ filter (λ other. nat_lt (rank_of row) (rank_of other)) (drop place rows)
back_is rows row place divides =
    let test = λ (other : Row). nat_lt (rank_of row) (rank_of other) in
    ap (filter test) (sym (take-append-drop place rows)) ∙ filter-append test (take place rows) (drop place rows)
    ∙ ap (λ xs. xs ++ filter test (drop place rows)) (filter_none test (take place rows) (λ k d lt. let less = divides.before k d lt in le-ltb _ _ (omega arith)))

pub replaced : (rows : List Row) (row : Row) (place : ℕ) → Ascend rows → DividesAt rows (rank_of row) place → is_some (row_for rows row.character row.upright) ≡ true
    → slice_set rows place row ≡ rows_with rows row
replaced rows row place up divides found =
    let here = found_is rows row.character row.upright place up divides found in
    let test = λ (other : Row). nat_lt (rank_of row) (rank_of other) in
    let inside : place < length rows = slice_get_within rows place here.0 here.1 in
    let same : rank_of here.0 ≡ rank_of row = here.2 in
    let not_itself : test here.0 ≡ false = le-ltb _ _ (omega arith) in
    let behind : filter test (drop place rows) ≡ drop (suc place) rows =
    ap (filter test) (split rows place here.0 here.1)
    ∙ rw not_itself (filter_all test (drop (suc place) rows) (λ k d lt. let after = past rows place here.0 up here.1 k d lt in lt-ltb _ _ (omega arith))) in
    set_split rows place row inside ∙ sym (ap₂ (λ xs ys. xs ++ row ∷ ys) (front_is rows row place divides) (back_is rows row place divides ∙ behind))

-- where the character has no row, all from the place on stand after its rank
strictly : (rows : List Row) (row : Row) (place : ℕ) → Ascend rows → DividesAt rows (rank_of row) place → is_some (row_for rows row.character row.upright) ≡ false
    → All (λ other. rank_of row < rank_of other) (drop place rows)
strictly rows row place up divides missing =
    elim (slice_get_cases rows place).1 [
      | inl at ↦
          let differ : rank_of at.0 ≡ rank_of row → ⊥ =
          λ same. true≢false (sym (ap is_some (found_here rows row.character row.upright place at.0 divides at.2 (eq-eqb _ _ same))) ∙ missing) in
          let at_least : rank_of row ≤ rank_of at.0 = at_place rows (rank_of row) place at.0 divides at.2 in
          let after : rank_of row < rank_of at.0 = above_from at_least differ in
          subst (All (λ other. rank_of row < rank_of other)) (sym (split rows place at.0 at.2))
          (All-cons (λ other. rank_of row < rank_of other) at.0 (drop (suc place) rows) after (λ k d lt. let later = past rows place at.0 up at.2 k d lt in omega arith))
      | inr beyond ↦ subst (All (λ other. rank_of row < rank_of other)) (sym (drop_all place rows beyond.0)) (All-nil _)
    ]
  where
    above_from : {a b : ℕ} → a ≤ b → (b ≡ a → ⊥) → a < b
    above_from le differ = omega arith

pub inserted : (rows : List Row) (row : Row) (place : ℕ) → Ascend rows → DividesAt rows (rank_of row) place → is_some (row_for rows row.character row.upright) ≡ false
    → insert rows place row ≡ rows_with rows row
inserted rows row place up divides missing =
    let test = λ (other : Row). nat_lt (rank_of row) (rank_of other) in
    let behind : filter test (drop place rows) ≡ drop place rows = filter_all test (drop place rows) (λ k d lt. lt-ltb _ _ (strictly rows row place up divides missing k d lt)) in
    sym (ap₂ (λ xs ys. xs ++ row ∷ ys) (front_is rows row place divides) (back_is rows row place divides ∙ behind))

-- ---- what holds of them

pub few_replaced : (rows : List Row) (place : ℕ) (row : Row) → length rows ≤ 4096 → length (slice_set rows place row) ≤ 4096
few_replaced rows place row few = omega (arith, length-set rows place row)

pub few_inserted : (rows : List Row) (place : ℕ) (row : Row) → length rows < 4096 → length (insert rows place row) ≤ 4096
few_inserted rows place row few = omega (arith, length-append (take place rows) (row ∷ drop place rows), length-take place rows, length-drop place rows)

ascend_joined : (at : ℕ) (front back : List Row) → Ascend front → All (λ other. rank_of other < at) front → Ascend back → All (λ other. at ≤ rank_of other) back → Ascend (front ++ back)
ascend_joined at [] back up before rest behind = rest
ascend_joined at (row ∷ front) back up before rest behind =
    let later : All (λ other. rank_of row < rank_of other) front = λ k d lt. up 0 (suc k) d (omega arith) (omega arith) in
    let lower : rank_of row < at = before 0 row (omega arith) in
    let R = λ (earlier : Row) (later : Row). rank_of earlier < rank_of later in
    AllPairs-cons R row (front ++ back)
    (All-append (R row) front back later (λ k d lt. let high = behind k d lt in omega arith))
    (ascend_joined at front back (λ i j d lt within. up (suc i) (suc j) d (omega arith) (omega arith)) (λ k d lt. before (suc k) d (omega arith)) rest behind)

ascend_with : (rows : List Row) (row : Row) → Ascend rows → Ascend (rows_with rows row)
ascend_with rows row up =
    let below = λ (other : Row). nat_lt (rank_of other) (rank_of row) in
    let above = λ (other : Row). nat_lt (rank_of row) (rank_of other) in
    let high : All (λ other. rank_of row < rank_of other) (filter above rows) = λ k d lt. ltb-true _ _ (filter_passes above rows k d lt) in
    let R = λ (earlier : Row) (later : Row). rank_of earlier < rank_of later in
    ascend_joined (rank_of row) (filter below rows) (row ∷ filter above rows) (AllPairs-filter R below rows up)
    (λ k d lt. ltb-true _ _ (filter_passes below rows k d lt))
    (AllPairs-cons R row (filter above rows) high (AllPairs-filter R above rows up))
    (All-cons (λ other. rank_of row ≤ rank_of other) row (filter above rows) (omega arith) (λ k d lt. let higher = high k d lt in omega arith))

values_with : (rows : List Row) (row : Row) → row.value ≤ 10000 → All (λ row. row.value ≤ 10000) rows → All (λ row. row.value ≤ 10000) (rows_with rows row)
values_with rows row value all =
    let P = λ (row : Row). row.value ≤ 10000 in
    All-append P _ _ (All-filter _ P rows all) (All-cons P row _ value (All-filter _ P rows all))

pub are_with : (rows : List Row) (row : Row) (new : List Row) → AreRows rows → row.value ≤ 10000 → new ≡ rows_with rows row → length new ≤ 4096 → AreRows new
are_with rows row new are value is few = record {
  values = subst (All (λ row. row.value ≤ 10000)) (sym is) (values_with rows row value are.values);
  ascending = subst Ascend (sym is) (ascend_with rows row are.ascending);
  few = few;
}

pub found_within : (rows : List Row) (c : ℕ) (upright : Bool) (place : ℕ) → Ascend rows → DividesAt rows (rank c upright) place → is_some (row_for rows c upright) ≡ true → place < length rows
found_within rows c upright place up divides found =
    let here = found_is rows c upright place up divides found in
    slice_get_within rows place here.0 here.1

find_passes : (P : Row → Type 0) (p : Row → Bool) (rows : List Row) (row : Row) → All P rows → find p rows ≡ Some row → P row
find_passes P p [] row all found = absurd (none-some row found)
find_passes P p (first ∷ rows) row all found =
    elim (cases_Bool (p first)) [
      | inl passes ↦ let is : Some first ≡ Some row = rw passes at found in subst P (some_same is) (all 0 first (omega arith))
      | inr fails ↦ let is : find p rows ≡ Some row = rw fails at found in find_passes P p rows row (λ k d lt. all (suc k) d (omega arith)) is
    ]
  where
    some_same : {x y : Row} → Some x ≡ Some y → x ≡ y
    some_same {x = x} e = ap (λ o. unwrap_or o x) e

pub value_most : (rows : List Row) (c : ℕ) (upright : Bool) (row : Row) → AreRows rows → Some row ≡ row_for rows c upright → row.value ≤ 10000
value_most rows c upright row are found = find_passes (λ row. row.value ≤ 10000) (λ row. rank_of row == rank c upright) rows row are.values (sym found)
