-- Places in a line, and places in its paragraph.
use Rattle.std.proofs.Common.{◌≡◌, refl, ap, ◌∙◌, ℕ, zero, suc, ◌+◌, ◌-◌, ◌<◌, ◌≤◌, Bool, true, false, cond, List, [], ◌∷◌, ◌++◌, length, get_or, append-nil, add-one, arith}
use Rattle.std.specs.Prelude.{All, IsPermutation}
use Rattle.std.specs.List.{range_with_len, slice_range}
use Rattle.std.proofs.lemmas.List.{drop_more}
use Rattle.std.proofs.lemmas.List.Elements.{All-append}
use Rattle.wm_chars.specs.declared.classes.BidiClass.{BidiClass}
use Rattle.wm_chars.specs.Classes.{is_removed}
use Rattle.bidi_explicit.specs.Explicit.{removed_marks}
use Rattle.std.proofs.lemmas.List.Sorted.{IsPermutation-map}
use Rattle.basic_laws.proofs.Lists.{all_alone}
use Rattle.bidi_explicit.specs.Sequences.{kept_from}
use Rattle.bidi_order.specs.Line.{line_places}
use Rattle.bidi_resolve.specs.Places.{gathered}

later : (x : ℕ) (xs : List ℕ) (at n : ℕ) → gathered 0 (x ∷ xs) (range_with_len (at + 1) n) ≡ gathered 0 xs (range_with_len at n)
later x xs at zero = refl
later x xs at (suc n) =
    let read : get_or (x ∷ xs) (at + 1) 0 ≡ get_or xs at 0 = rw add-one refl in
    rw (later x xs (at + 1) n, read) refl

-- a list is what stands at all its places in order
pub in_order : (xs : List ℕ) → gathered 0 xs (range_with_len 0 (length xs)) ≡ xs
in_order [] = refl
in_order (x ∷ xs) = ap (λ (l : List ℕ). x ∷ l) (later x xs 0 (length xs) ∙ in_order xs)

-- the places in the paragraph are rearranged as those in the line are
pub looked_up : (n : ℕ) (places order : List ℕ) → length places ≡ n → IsPermutation (range_with_len 0 n) order → IsPermutation places (gathered 0 places order)
looked_up n places order many perm =
    let moved : IsPermutation (gathered 0 places (range_with_len 0 n)) (gathered 0 places order) = IsPermutation-map (λ k. get_or places k 0) (range_with_len 0 n) order perm in
    rw (← many, in_order places) at moved

pub slice_more : {X : Type 0} (xs : List X) (at stop : ℕ) (d : X) → at < stop → at < length xs → slice_range xs at stop ≡ get_or xs at d ∷ slice_range xs (at + 1) stop
slice_more xs at stop d lt inside =
    let many : stop - at ≡ suc (stop - (at + 1)) = omega arith in
    rw (drop_more xs at d inside, many) refl

-- one place more is kept or not
pub kept_more : (classes : List BidiClass) (at stop : ℕ) (d : BidiClass) → at < stop → stop ≤ length classes
    → line_places classes at stop ≡ cond (is_removed (get_or classes at d)) [] (at ∷ []) ++ line_places classes (at + 1) stop
kept_more classes at stop d lt le = rw (slice_more classes at stop d lt (omega arith)) (go (is_removed (get_or classes at d)))
  where
    go : (b : Bool) → kept_from at (b ∷ removed_marks (slice_range classes (at + 1) stop)) ≡ cond b [] (at ∷ []) ++ line_places classes (at + 1) stop
    go true = refl
    go false = refl

pub within_more : (places : List ℕ) (b : Bool) (at n : ℕ) → at < n → All (λ p. p < n) places → All (λ p. p < n) (places ++ cond b [] (at ∷ []))
within_more places true at n lt all = rw append-nil all
within_more places false at n lt all = All-append (λ p. p < n) places (at ∷ []) all (all_alone (λ p. p < n) at lt)
