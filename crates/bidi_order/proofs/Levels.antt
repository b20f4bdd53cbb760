-- The levels that a line's characters have, and those between them.
use Rattle.std.proofs.Common.{◌≡◌, ◌∙◌, refl, sym, ap, arith, inl, inr, ℕ, zero, suc, ◌+◌, ◌-◌, ◌%◌, ◌<◌, ◌≤◌, Bool, true, false, cond, leb, eqb, add-one, List, [], ◌∷◌, ◌++◌, append-nil, length, get_or, map}
use Rattle.std.specs.Prelude.{◌*◌, ltb, slice_index}
use Rattle.std.specs.List.{range_with_len}
use Rattle.std.proofs.lemmas.List.{map-append, get_or-map}
use Rattle.std.proofs.lemmas.List.FromFn.{length-range_with_len}
use Rattle.std.proofs.lemmas.Bool.{cases_Bool, cases_lt, leb-true, le-leb, lt-leb, lt-ltb, le-ltb}
use Rattle.bidi_order.specs.Reversals.{ReachTheSame, reverse_runs, from_least_odd, greatest, greatest_below, least_odd, reversals}
use Rattle.bidi_order.proofs.AllLevels.{at_most, by_all, double, doubled, down_reversals, has_least, high_down}
use Rattle.bidi_order.proofs.LeavingOut.{AllPass, agreeing, twice}

-- ---- the greatest level below another

cut_below : (limit level : ℕ) → 0 < limit → cond (ltb level limit) level 0 < limit
cut_below limit level high = elim (cases_lt level limit) [
  | inl low ↦ rw (lt-ltb level limit low) low
  | inr le ↦ rw (le-ltb level limit le) high
]

pub below_less : (limit : ℕ) (levels : List ℕ) → 0 < limit → greatest_below limit levels < limit
below_less limit [] high = high
below_less limit (level ∷ levels) high =
    let a = cut_below limit level high in
    let b = below_less limit levels high in
    omega arith

pub below_most : (limit : ℕ) (levels : List ℕ) (p : ℕ) → slice_index levels p < limit → slice_index levels p ≤ greatest_below limit levels
below_most limit [] p low = omega arith
below_most limit (level ∷ levels) zero low = rw (lt-ltb level limit low) (omega arith)
below_most limit (level ∷ levels) (suc p) low = let h = below_most limit levels p low in omega arith

-- ---- reversals at levels that the same places reach

abbrev turns : {X : Type 0} → (X → Bool) → ℕ → List X → List X
turns passes zero xs = xs
turns passes (suc n) xs = turns passes n (reverse_runs passes [] xs)

turns_are : {X : Type 0} (passes : X → Bool) (n : ℕ) (xs : List X) → turns passes n xs ≡ cond (eqb (n % 2) 1) (reverse_runs passes [] xs) xs
turns_are passes zero xs = refl
turns_are passes (suc zero) xs = refl
turns_are passes (suc (suc n)) xs =
    let same : suc (suc n) % 2 ≡ n % 2 = omega arith in
    ap (turns passes n) (twice passes xs) ∙ turns_are passes n xs ∙ ap (λ (k : ℕ). cond (eqb k 1) (reverse_runs passes [] xs) xs) (sym same)

module _ (levels : List ℕ) (least level : ℕ) where
  abbrev reaches : ℕ → Bool
  reaches p = leb level (slice_index levels p)

  skipped : (m d n : ℕ) (places : List ℕ) → d + m ≡ n → ((p j : ℕ) → m ≤ j → j < n → leb (least + j) (slice_index levels p) ≡ reaches p)
      → reversals levels least n places ≡ reversals levels least m (turns reaches d places)
  skipped m zero n places e same = let e' : n ≡ m = omega arith in rw e' refl
  skipped m (suc d) zero places e same = absurd (omega arith)
  skipped m (suc d) (suc n) places e same =
      ap (λ l. reversals levels least n l) (agreeing (λ p. leb (least + n) (slice_index levels p)) reaches [] places (λ p. same p n (omega arith) (omega arith)))
      ∙ skipped m d n (reverse_runs reaches [] places) (omega arith) (λ p j low high. same p j low (omega arith))

-- no character has a level between these two
pub between : (levels : List ℕ) (level next : ℕ) (places places' : List ℕ) → 0 < level → next ≡ greatest_below level levels
    → places' ≡ cond (eqb ((level - next) % 2) 1) (reverse_runs (λ p. leb level (slice_index levels p)) [] places) places
    → reversals levels 1 next places' ≡ reversals levels 1 level places
between levels level next places places' some next-is is =
    let low : greatest_below level levels < level = below_less level levels some in
    let same : (p j : ℕ) → next ≤ j → j < level → leb (1 + j) (slice_index levels p) ≡ leb level (slice_index levels p) = λ p j from upto.
    elim (cases_lt (slice_index levels p) level) [
      | inl less ↦
          let most : slice_index levels p ≤ greatest_below level levels = below_most level levels p less in
          lt-leb (1 + j) (slice_index levels p) (omega arith) ∙ sym (lt-leb level (slice_index levels p) less)
      | inr more ↦ le-leb (1 + j) (slice_index levels p) (omega arith) ∙ sym (le-leb level (slice_index levels p) more)
    ] in
    sym (skipped levels 1 level next (level - next) level places (omega arith) same
    ∙ ap (λ l. reversals levels 1 next l) (turns_are (λ p. leb level (slice_index levels p)) (level - next) places ∙ sym is))

-- the reversals below the least odd level change nothing
pub from_greatest : (levels places : List ℕ) → reversals levels 1 (greatest levels) places ≡ from_least_odd levels (least_odd levels) places
from_greatest levels places =
    let n : ℕ = greatest levels in
    let d : double n ≡ 2 * n = doubled n in
    sym (by_all levels (least_odd levels) n places (has_least levels) (omega arith)
    ∙ high_down (λ p. slice_index levels p) n (double n) places (at_most levels) (omega arith)
    ∙ down_reversals levels 0 n n places (omega arith))

-- ---- places that reach the same levels as the line's own

own_later : (k level : ℕ) (levels : List ℕ) (at n : ℕ) → map (λ p. leb k (slice_index (level ∷ levels) p)) (range_with_len (at + 1) n) ≡ map (λ p. leb k (slice_index levels p)) (range_with_len at n)
own_later k level levels at zero = refl
own_later k level levels at (suc n) =
    let read : slice_index (level ∷ levels) (at + 1) ≡ slice_index levels at = rw add-one refl in
    rw (own_later k level levels (at + 1) n, read) refl

pub own : (k : ℕ) (levels : List ℕ) → map (λ p. leb k (slice_index levels p)) (range_with_len 0 (length levels)) ≡ map (λ l. leb k l) levels
own k [] = refl
own k (level ∷ levels) = ap (λ (l : List Bool). leb k level ∷ l) (own_later k level levels 0 (length levels) ∙ own k levels)

pub own_length : (levels places : List ℕ) → places ≡ range_with_len 0 (length levels) → length places ≡ length levels
own_length levels places is = ap length is ∙ length-range_with_len 0 (length levels)

pub own_places : (levels : List ℕ) (level : ℕ) (places : List ℕ) → places ≡ range_with_len 0 (length levels) → ReachTheSame levels level places
own_places levels level places is = λ k le. rw is (own k levels)

passed : {X : Type 0} (f : X → Bool) (run : List X) (b : Bool) (ys : List Bool) → AllPass f run → b ≡ true → b ∷ (map f run ++ ys) ≡ map f run ++ b ∷ ys
passed f [] b ys all e = refl
passed f (x ∷ run) b ys all e =
    let same : f x ≡ b = all.0 ∙ sym e in
    rw same (ap (λ (l : List Bool). b ∷ l) (passed f run b ys all.1 e))

-- what all of a run passes is told of the same places, also when the run is reversed
told : {X : Type 0} (passes f : X → Bool) (run xs : List X) → ((x : X) → passes x ≡ true → f x ≡ true) → AllPass f run → map f (reverse_runs passes run xs) ≡ map f run ++ map f xs
told passes f run [] weaker all = sym (append-nil (map f run))
told passes f run (x ∷ xs) weaker all = elim (cases_Bool (passes x)) [
  | inl in_ ↦ rw in_ (told passes f (x ∷ run) xs weaker (weaker x in_, all) ∙ passed f run (f x) (map f xs) all (weaker x in_))
  | inr other ↦ rw other (map-append f run (x ∷ reverse_runs passes [] xs) ∙ ap (λ (l : List Bool). map f run ++ f x ∷ l) (told passes f [] xs weaker tt))
]

pub reach_less : (levels : List ℕ) (level next : ℕ) (places : List ℕ) → ReachTheSame levels level places → next ≤ level → ReachTheSame levels next places
reach_less levels level next places same le = λ k low. same k (omega arith)

pub reach_reversed : (levels : List ℕ) (level : ℕ) (places : List ℕ) → ReachTheSame levels level places
    → ReachTheSame levels level (reverse_runs (λ p. leb level (slice_index levels p)) [] places)
reach_reversed levels level places same = λ k low.
    told (λ p. leb level (slice_index levels p)) (λ p. leb k (slice_index levels p)) [] places
    (λ p in_. le-leb k (slice_index levels p) (let h = leb-true level (slice_index levels p) in_ in omega arith)) tt
    ∙ same k low

pub reach_chosen : (levels : List ℕ) (level next : ℕ) (b : Bool) (places places' : List ℕ) → next ≤ level → ReachTheSame levels level places
    → places' ≡ cond b (reverse_runs (λ p. leb level (slice_index levels p)) [] places) places → ReachTheSame levels next places'
reach_chosen levels level next true places places' le same is = reach_less levels level next places' (rw is (reach_reversed levels level places same)) le
reach_chosen levels level next false places places' le same is = reach_less levels level next places' (rw is same) le

-- so a place of the line tells of the one that stands there
pub reach_at : (levels : List ℕ) (level : ℕ) (places : List ℕ) (i : ℕ) → length places ≡ length levels → i < length levels → ReachTheSame levels level places
    → leb level (slice_index levels (get_or places i 0)) ≡ leb level (get_or levels i 0)
reach_at levels level places i many inside same =
    sym (get_or-map (λ p. leb level (slice_index levels p)) places i 0 false (omega arith))
    ∙ ap (λ (l : List Bool). get_or l i false) (same level (omega arith))
    ∙ get_or-map (λ l. leb level l) levels i 0 false inside
