-- The order of a line (UAX 9, rule L2).
use Rattle.std.specs.Prelude.{◌≡◌, ℕ, zero, suc, ◌+◌, ◌≤◌, ◌-◌, ◌%◌, max, min, Bool, cond, eqb, leb, ltb, List, [], ◌∷◌, ◌++◌, length, map, drop, reverse, take, slice_index, Option, Some, None}
use Rattle.std.specs.List.{range_with_len}
use Rattle.std.specs.List.Sorted.{IsPermutation}

-- each longest run of elements that pass the test, reversed; `run` holds the one that is being read, last first
abbrev pub reverse_runs : {X : Type 0} → (X → Bool) → List X → List X → List X
reverse_runs passes run [] = run
reverse_runs passes run (x ∷ xs) = cond (passes x) (reverse_runs passes (x ∷ run) xs) (run ++ x ∷ reverse_runs passes [] xs)

abbrev pub greatest : List ℕ → ℕ
greatest [] = 0
greatest (level ∷ levels) = max level (greatest levels)

-- the greatest level below that one, or 0
abbrev pub greatest_below : ℕ → List ℕ → ℕ
greatest_below limit [] = 0
greatest_below limit (level ∷ levels) = max (cond (ltb level limit) level 0) (greatest_below limit levels)

-- the least odd level, if there is one
abbrev pub lesser : ℕ → Option ℕ → Option ℕ
lesser level None = Some level
lesser level (Some least) = Some (min level least)

abbrev pub least_odd : List ℕ → Option ℕ
least_odd [] = None
least_odd (level ∷ levels) = cond (eqb (level % 2) 1) (lesser level (least_odd levels)) (least_odd levels)

-- for each of these many levels from the highest down to the least one: each longest run of places that have that
-- level or a higher one, reversed
abbrev pub reversals : List ℕ → ℕ → ℕ → List ℕ → List ℕ
reversals levels least zero places = places
reversals levels least (suc n) places = reversals levels least n (reverse_runs (λ p. leb (least + n) (slice_index levels p)) [] places)

abbrev pub from_least_odd : List ℕ → Option ℕ → List ℕ → List ℕ
from_least_odd levels None places = places
from_least_odd levels (Some least) places = reversals levels least (greatest levels + 1 - least) places

-- places whose characters reach a level, up to that one, exactly where those of the line in its own order do
abbrev pub ReachTheSame : List ℕ → (level : ℕ) → (places : List ℕ) → Type 0
ReachTheSame levels level places = (k : ℕ) → k ≤ level → map (λ p. leb k (slice_index levels p)) places ≡ map (λ l. leb k l) levels

-- places of a line that has these levels, as many as it has, of which those that reach this level stand where they do in the
-- line's own order
pub record IsLineAt (levels : List ℕ) (level : ℕ) (places : List ℕ) : Type 0 where
  pub many : length places ≡ length levels
  pub reach : ReachTheSame levels level places

-- how far the runs of a list are reversed: those before `start` are, the one that begins there is read up to i, and all
-- from i on is as it was
pub record IsReversing {X : Type 0} (passes : X → Bool) (old now : List X) (start i : ℕ) : Type 0 where
  pub begun : start ≤ i
  pub within : i ≤ length now
  pub rearranged : IsPermutation old now
  pub rest : drop i now ≡ drop i old
  pub runs : take start now ++ reverse_runs passes (reverse (take (i - start) (drop start now))) (drop i now) ≡ reverse_runs passes [] old

-- the same of places by whether their characters reach this level, in a line whose own places reach the same
abbrev pub IsReversingLine : List ℕ → (level : ℕ) → (line now : List ℕ) → (start i : ℕ) → Type 0
IsReversingLine levels level line now start i = (length line ≡ length levels) × ReachTheSame levels level line × IsReversing (λ p. leb level (slice_index levels p)) line now start i

-- L2: the reversals from the greatest level down to the least odd one, of all places in order
unfoldable pub order : List ℕ → List ℕ
order levels = from_least_odd levels (least_odd levels) (range_with_len 0 (length levels))
