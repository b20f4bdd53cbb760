-- The reversals of a line at one level, many places at a time.
use Rattle.std.proofs.Common.{◌≡◌, ◌∙◌, refl, sym, ap, subst, arith, inl, inr, ℕ, zero, suc, ◌+◌, ◌-◌, ◌<◌, ◌≤◌, Bool, true, false, leb, List, length, get_or, drop}
use Rattle.std.specs.Prelude.{slice_index}
use Rattle.std.specs.List.{list_all, list_any, slice_range}
use Rattle.std.proofs.lemmas.Bool.{cases_Bool}
use Rattle.std.proofs.lemmas.List.{get_or-take, get_or-drop, length-take-le, length-drop}
use Rattle.std.proofs.lemmas.List.Folds.{list_all_at, list_any_at}
use Rattle.std.proofs.lemmas.List.Sorted.{length_permutation}
use Rattle.bidi_order.specs.Reversals.{IsReversingLine}
use Rattle.bidi_order.proofs.Levels.{reach_at}
use Rattle.bidi_order.proofs.Runs.{as_it_was, passes_more, reversed_part, short_part, stops_more}

module _ (levels : List ℕ) (level from end_ : ℕ) (order : from ≤ end_) (within : end_ ≤ length levels) where
  abbrev part : List ℕ
  part = slice_range levels from end_

  part_length : length part ≡ end_ - from
  part_length =
      let rest : length (drop from levels) ≡ length levels - from = length-drop from levels in
      length-take-le (end_ - from) (drop from levels) (omega arith)

  at : (k : ℕ) → k < end_ - from → leb level (get_or part k 0) ≡ leb level (slice_index levels (from + k))
  at k lt = ap (leb level) (get_or-take (end_ - from) (drop from levels) k 0 lt ∙ get_or-drop from levels k 0)

  pub all_in : list_all (leb level) part ≡ true → (k : ℕ) → k < end_ - from → leb level (slice_index levels (from + k)) ≡ true
  all_in all k lt = elim (cases_Bool (leb level (get_or part k 0))) [
    | inl reached ↦ sym (at k lt) ∙ reached
    | inr missed ↦
        let len : length part ≡ end_ - from = part_length in
        let bad : true ≡ false = sym all ∙ list_all_at (leb level) part k 0 (omega arith) missed in
        absurd (cc)
  ]

  pub none_in : list_any (leb level) part ≡ false → (k : ℕ) → k < end_ - from → leb level (slice_index levels (from + k)) ≡ false
  none_in none k lt = elim (cases_Bool (leb level (get_or part k 0))) [
    | inl reached ↦
        let len : length part ≡ end_ - from = part_length in
        let bad : true ≡ false = sym (list_any_at (leb level) part k 0 (omega arith) reached) ∙ none in
        absurd (cc)
    | inr missed ↦ sym (at k lt) ∙ missed
  ]

module _ (levels : List ℕ) (level : ℕ) (line : List ℕ) where
  abbrev passes : ℕ → Bool
  passes p = leb level (slice_index levels p)

  abbrev On : List ℕ → ℕ → ℕ → Type 0
  On now start i = IsReversingLine levels level line now start i

  pub long : (now : List ℕ) (start i : ℕ) → On now start i → length now ≡ length levels
  long now start i on = length_permutation line now on.2.rearranged ∙ on.0

  -- a place passes where the line's own one reaches the level
  pub here : (now : List ℕ) (start i : ℕ) → On now start i → i < length levels → passes (slice_index now i) ≡ leb level (slice_index levels i)
  here now start i on lt =
      let len : length now ≡ length levels = long now start i on in
      ap passes (as_it_was passes line now start i (slice_index now i) 0 on.2 (omega arith) refl) ∙ reach_at levels level line i on.0 lt on.1

  pub one_passes : (now : List ℕ) (start i : ℕ) → On now start i → i < length levels → leb level (slice_index levels i) ≡ true → On now start (i + 1)
  one_passes now start i on lt own =
      let len : length now ≡ length levels = long now start i on in
      (on.0, on.1, passes_more passes line now start i (slice_index now i) 0 on.2 (omega arith) refl (here now start i on lt ∙ own))

  pub one_stops : (now now' : List ℕ) (start i : ℕ) → On now start i → i < length levels → leb level (slice_index levels i) ≡ false → now' ≡ reversed_part now start i → On now' (i + 1) (i + 1)
  one_stops now now' start i on lt own is =
      let len : length now ≡ length levels = long now start i on in
      (on.0, on.1, stops_more passes line now start i (slice_index now i) 0 on.2 (omega arith) refl (here now start i on lt ∙ own) now' is)

  pub all_pass : (n : ℕ) (now : List ℕ) (start i j : ℕ) → i + n ≡ j → j ≤ length levels → ((k : ℕ) → k < n → leb level (slice_index levels (i + k)) ≡ true) → On now start i → On now start j
  all_pass zero now start i j e high all on = let same : i ≡ j = omega arith in subst (λ (k : ℕ). On now start k) same on
  all_pass (suc n) now start i j e high all on =
      let first : i + 0 ≡ i = omega arith in
      let own : leb level (slice_index levels i) ≡ true = ap (λ (k : ℕ). leb level (slice_index levels k)) (sym first) ∙ all 0 (omega arith) in
      all_pass n now start (i + 1) j (omega arith) high
      (λ k lt. let next : i + 1 + k ≡ i + suc k = omega arith in ap (λ (m : ℕ). leb level (slice_index levels m)) next ∙ all (suc k) (omega arith))
      (one_passes now start i on (omega arith) own)

  none_pass : (n : ℕ) (now : List ℕ) (i j : ℕ) → i + n ≡ j → j ≤ length levels → ((k : ℕ) → k < n → leb level (slice_index levels (i + k)) ≡ false) → On now i i → On now j j
  none_pass zero now i j e high none on = let same : i ≡ j = omega arith in subst (λ (k : ℕ). On now k k) same on
  none_pass (suc n) now i j e high none on =
      let len : length now ≡ length levels = long now i i on in
      let first : i + 0 ≡ i = omega arith in
      let own : leb level (slice_index levels i) ≡ false = ap (λ (k : ℕ). leb level (slice_index levels k)) (sym first) ∙ none 0 (omega arith) in
      none_pass n now (i + 1) j (omega arith) high
      (λ k lt. let next : i + 1 + k ≡ i + suc k = omega arith in ap (λ (m : ℕ). leb level (slice_index levels m)) next ∙ none (suc k) (omega arith))
      (one_stops now now i i on (omega arith) own (short_part now i i (omega arith) (omega arith) (omega arith)))

  pub block_stops : (n : ℕ) (now now' : List ℕ) (start i j : ℕ) → i + n ≡ j → i < j → j ≤ length levels → ((k : ℕ) → k < n → leb level (slice_index levels (i + k)) ≡ false) → On now start i → now' ≡ reversed_part now start i → On now' j j
  block_stops zero now now' start i j e some high none on is = absurd (omega arith)
  block_stops (suc n) now now' start i j e some high none on is =
      let first : i + 0 ≡ i = omega arith in
      let own : leb level (slice_index levels i) ≡ false = ap (λ (k : ℕ). leb level (slice_index levels k)) (sym first) ∙ none 0 (omega arith) in
      none_pass n now' (i + 1) j (omega arith) high
      (λ k lt. let next : i + 1 + k ≡ i + suc k = omega arith in ap (λ (m : ℕ). leb level (slice_index levels m)) next ∙ none (suc k) (omega arith))
      (one_stops now now' start i on (omega arith) own is)
