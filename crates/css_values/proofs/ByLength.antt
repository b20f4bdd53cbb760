-- The table of properties, found by the lengths of the names.
use Rattle.std.proofs.Common.{◌≡◌, ◌⊎◌, inl, inr, ℕ, ◌<◌, ◌≤◌, ◌+◌, Bool, true, false, List, [], ◌∷◌, length, drop, get_or, map, bytes_eq, Some, None, refl, arith, sym, ap, ◌∙◌}
use Rattle.std.specs.Prelude.{Option, cond, filter, nat_eq, nat_lt, option_map, slice_get}
use Rattle.std.specs.Char.{to_ascii_lowercase}
use Rattle.std.specs.List.{list_all, range_with_len}
use denote.Bor.{Bor}
use Rattle.std.proofs.lemmas.List.{drop_all, drop_more, length-map, get_or-map, get_or_past}
use Rattle.std.proofs.lemmas.List.FromFn.{get_or-map-range_with_len}
use Rattle.std.proofs.lemmas.Option.{slice_get-map}
use Rattle.std.proofs.lemmas.Slice.Eq.{bytes_eq-Decides}
use Rattle.std.proofs.lemmas.Bool.{cases_Bool, cases_lt}
use Rattle.css_types.specs.declared.table.PropertyRow.{PropertyRow}
use Rattle.reading.specs.Names.{lowered, named, words_of}
use Rattle.css_values.specs.ByLength.{places_by_length, rows_at}
use Rattle.css_values.specs.Tables.{properties}

-- ---- the rows at some places, one after the other

abbrev word_of : {T : Type 0} → Bor (List ℕ) × T → List ℕ × T
word_of row = (row.0.now, row.1)

module _ {T : Type 0} (table : List (Bor (List ℕ) × T)) (places : List ℕ) (i d : ℕ) (name : List ℕ) (total : Option T) (lt : i < length places) where
  pub at_passed : slice_get table (get_or places i d) ≡ None → named (rows_at (words_of table) (drop i places)) name ≡ total → named (rows_at (words_of table) (drop (i + 1) places)) name ≡ total
  at_passed none so_far =
      let at : slice_get (words_of table) (get_or places i d) ≡ None = slice_get-map word_of table (get_or places i d) ∙ ap (option_map word_of) none in
      let here : named (rows_at (words_of table) (drop i places)) name ≡ named (rows_at (words_of table) (drop (i + 1) places)) name = rw (drop_more places i d lt) (rw at refl) in
      sym here ∙ so_far

  pub at_goes_on : (row : Bor (List ℕ) × T) → slice_get table (get_or places i d) ≡ Some row → bytes_eq (lowered row.0.now) name ≡ false
      → named (rows_at (words_of table) (drop i places)) name ≡ total → named (rows_at (words_of table) (drop (i + 1) places)) name ≡ total
  at_goes_on row is other so_far =
      let at : slice_get (words_of table) (get_or places i d) ≡ Some (word_of row) = slice_get-map word_of table (get_or places i d) ∙ ap (option_map word_of) is in
      let here : named (rows_at (words_of table) (drop i places)) name ≡ named (rows_at (words_of table) (drop (i + 1) places)) name = rw (drop_more places i d lt) (rw at (rw other refl)) in
      sym here ∙ so_far

  pub at_here : (row : Bor (List ℕ) × T) → slice_get table (get_or places i d) ≡ Some row → bytes_eq (lowered row.0.now) name ≡ true
      → named (rows_at (words_of table) (drop i places)) name ≡ total → Some row.1 ≡ total
  at_here row is same so_far =
      let at : slice_get (words_of table) (get_or places i d) ≡ Some (word_of row) = slice_get-map word_of table (get_or places i d) ∙ ap (option_map word_of) is in
      let here : named (rows_at (words_of table) (drop i places)) name ≡ Some row.1 = rw (drop_more places i d lt) (rw at (rw same refl)) in
      sym here ∙ so_far

pub at_end : {T : Type 0} (table : List (Bor (List ℕ) × T)) (places : List ℕ) (i : ℕ) (name : List ℕ) (total : Option T) → length places ≤ i
    → named (rows_at (words_of table) (drop i places)) name ≡ total → None ≡ total
at_end table places i name total le so_far =
    let none : drop i places ≡ [] = drop_all i places le in
    rw none at so_far

-- ---- only rows of the same length can have the name

abbrev so_long : {T : Type 0} → ℕ → List ℕ × T → Bool
so_long n row = nat_eq (length row.0) n

other_length : (word name : List ℕ) → nat_eq (length word) (length name) ≡ false → bytes_eq (lowered word) name ≡ false
other_length word name differs = elim (cases_Bool (bytes_eq (lowered word) name)) [
  | inl same ↦
      let is : lowered word ≡ name = (bytes_eq-Decides (lowered word) name).0 same in
      let long : length word ≡ length name = sym (length-map word to_ascii_lowercase) ∙ ap length is in
      grind arith
  | inr other ↦ other
]

step : {T : Type 0} (word : List ℕ) (x : T) (others kept : List (List ℕ × T)) (name : List ℕ) (b : Bool) → nat_eq (length word) (length name) ≡ b
    → named others name ≡ named kept name → named ((word, x) ∷ others) name ≡ named (cond b ((word, x) ∷ kept) kept) name
step word x others kept name true is so_far = elim (cases_Bool (bytes_eq (lowered word) name)) [
  | inl same ↦ rw same refl
  | inr other ↦ rw other so_far
]
step word x others kept name false is so_far = rw (other_length word name is) so_far

only_so_long : {T : Type 0} (table : List (List ℕ × T)) (name : List ℕ) → named table name ≡ named (filter (so_long (length name)) table) name
only_so_long [] name = refl
only_so_long ((word, x) ∷ others) name =
    step word x others (filter (so_long (length name)) others) name (nat_eq (length word) (length name)) refl (only_so_long others name)

-- ---- the places are those of the rows of each length

each_length : map (rows_at properties) places_by_length ≡ map (λ n. filter (so_long n) properties) (range_with_len 0 26)
unfolding places_by_length properties
each_length = refl

all_shorter : list_all (λ row. nat_lt (length row.0) 26) properties ≡ true
unfolding properties
all_shorter = refl

lists : length places_by_length ≡ 26
unfolding places_by_length
lists = refl

none_so_long : {T : Type 0} (table : List (List ℕ × T)) (n : ℕ) → 26 ≤ n → list_all (λ row. nat_lt (length row.0) 26) table ≡ true → filter (so_long n) table ≡ []
none_so_long [] n le all = refl
none_so_long ((word, x) ∷ others) n le all =
    let shorter : (length word < 26) × (list_all (λ row. nat_lt (length row.0) 26) others ≡ true) = grind arith in
    let differs : nat_eq (length word) n ≡ false = grind (arith, shorter.0) in
    rw differs (none_so_long others n le shorter.1)

at_length : (n : ℕ) → (n < 26) ⊎ (26 ≤ n) → rows_at properties (get_or places_by_length n []) ≡ filter (so_long n) properties
at_length n (inl lt) =
    sym (get_or-map (rows_at properties) places_by_length n [] [] (omega (arith, lists)))
    ∙ ap (λ (l : List (List (List ℕ × PropertyRow))). get_or l n []) each_length
    ∙ get_or-map-range_with_len (λ k. filter (so_long k) properties) 0 26 n n [] lt (omega arith)
at_length n (inr le) = rw (get_or_past places_by_length n [] (omega (arith, lists))) (sym (none_so_long properties n le all_shorter))

-- what the places of a name's length give is what the table has for it
pub properties_are : (name places : List ℕ) → places ≡ get_or places_by_length (length name) [] → named (rows_at properties places) (lowered name) ≡ named properties (lowered name)
properties_are name places is =
    let long : length (lowered name) ≡ length name = length-map name to_ascii_lowercase in
    ap (λ (ps : List ℕ). named (rows_at properties ps) (lowered name)) is
    ∙ ap (λ (rows : List (List ℕ × PropertyRow)). named rows (lowered name)) (at_length (length name) (cases_lt (length name) 26) ∙ ap (λ (n : ℕ). filter (so_long n) properties) (sym long))
    ∙ sym (only_so_long properties (lowered name))
