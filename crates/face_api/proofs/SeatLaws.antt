-- Seats, each with a box or none: the tables behind them.
use Rattle.std.proofs.Common.{◌≡◌, ℕ, zero, suc, ◌<◌, ◌≤◌, List, [], ◌∷◌, ◌++◌, map, length, slice_index_or, slice_set, Option, Some, None, ap, subst, sym, ◌∙◌, refl, arith}
use Rattle.std.specs.Prelude.{Bool, option_map, unwrap_or, IsSome}
use Rattle.std.proofs.lemmas.List.{map-set, set-get_or, get_or_default, append-nil}
use Rattle.face_api.specs.Kinds.{mono_table}
use Rattle.face_api.specs.Living.{living, used_table, set_table, retired}
use Rattle.face_api.specs.Table.{Table, set_row}

module _ {B : Type 0} (table : B → Table) where
  abbrev tables_of : List (Option B) → List (Option Table)
  tables_of seats = map (option_map table) seats

  pub living_seat : (seats : List (Option B)) (face : ℕ) → living (tables_of seats) face ≡ option_map table (slice_index_or seats face None)
  living_seat [] face = refl
  living_seat (seat ∷ seats) zero = refl
  living_seat (seat ∷ seats) (suc face) = living_seat seats face

  pub used_living : (seats : List (Option B)) (face : ℕ) (seat : B) → Some seat ≡ slice_index_or seats face None → table seat ≡ used_table (tables_of seats) face
  unfolding used_table
  used_living seats face seat is =
      sym (ap (λ found. unwrap_or found (unwrap_or (living (tables_of seats) 0) mono_table)) (living_seat seats face ∙ ap (option_map table) (sym is)))

  pub used_first : (seats : List (Option B)) (face : ℕ) (first : Table) → None ≡ slice_index_or seats face None → living (tables_of seats) 0 ≡ Some first → first ≡ used_table (tables_of seats) face
  unfolding used_table
  used_first seats face first is lives =
      sym (ap (λ found. unwrap_or found (unwrap_or (living (tables_of seats) 0) mono_table)) (living_seat seats face ∙ ap (option_map table) (sym is))
      ∙ ap (λ found. unwrap_or found mono_table) lives)

  pub retired_seats : (seats : List (Option B)) (face at : ℕ) (new : Option B) → at ≡ face → new ≡ None → tables_of (slice_set seats at new) ≡ retired (tables_of seats) face
  retired_seats seats face at new same none =
      ap (λ seat. tables_of (slice_set seats at seat)) none ∙ map-set (option_map table) seats at None ∙ ap (retired (tables_of seats)) same

  -- what was done to the table in the seat is done to the tables
  pub set_seats : (seats : List (Option B)) (face at c : ℕ) (upright : Bool) (value : ℕ) (old new : Option B) → at ≡ face → at < length seats → old ≡ slice_index_or seats at old
      → option_map table new ≡ option_map (λ table. set_row table c upright value) (option_map table old)
      → tables_of (slice_set seats at new) ≡ set_table (tables_of seats) face c upright value
  unfolding set_table
  set_seats seats face at c upright value old new same lt was is =
      let here : old ≡ slice_index_or seats at None = was ∙ get_or_default seats at old None lt in
      let change = λ (table : Table). set_row table c upright value in
      map-set (option_map table) seats at new ∙ ap (slice_set (tables_of seats) at) (is ∙ ap (λ seat. option_map change (option_map table seat)) here ∙ ap (option_map change) (sym (living_seat seats at)))
      ∙ ap (λ face. slice_set (tables_of seats) face (option_map change (living (tables_of seats) face))) same

  pub same_seats : (seats : List (Option B)) (at : ℕ) (old new : Option B) → at < length seats → old ≡ slice_index_or seats at old → option_map table new ≡ option_map table old
      → tables_of (slice_set seats at new) ≡ tables_of seats
  same_seats seats at old new lt was is =
      let here : old ≡ slice_index_or seats at None = was ∙ get_or_default seats at old None lt in
      map-set (option_map table) seats at new ∙ ap (slice_set (tables_of seats) at) (is ∙ ap (option_map table) here ∙ sym (living_seat seats at)) ∙ set-get_or (tables_of seats) at None

-- ---- seats made of boxes

pub all_taken : {B : Type 0} (seats : List (Option B)) (rest faces : List B) → length rest ≡ 0 → seats ++ map Some rest ≡ map Some faces → seats ≡ map Some faces
all_taken seats [] faces none is = sym (append-nil seats) ∙ is
all_taken seats (b ∷ rest) faces none is = absurd (omega arith)

pub first_lives : {B : Type 0} (seats : List (Option B)) (faces : List B) → 1 ≤ length faces → seats ≡ map Some faces → IsSome (slice_index_or seats 0 None)
first_lives seats [] some is = absurd (omega arith)
first_lives seats (b ∷ faces) some is = subst (λ seats. IsSome (slice_index_or seats 0 None)) (sym is) refl

pub all_living : {B : Type 0} (table : B → Table) (seats : List (Option B)) (faces : List B) → seats ≡ map Some faces → map (option_map table) seats ≡ map (λ b. Some (table b)) faces
all_living {B = B} table seats faces is = ap (map (option_map table)) is ∙ inside faces
  where
    inside : (faces : List B) → map (option_map table) (map Some faces) ≡ map (λ b. Some (table b)) faces
    inside [] = refl
    inside (b ∷ faces) = ap (λ tables. Some (table b) ∷ tables) (inside faces)
