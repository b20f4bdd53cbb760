-- The order of a line as all reversals from an even level that none is above down to 1; and that a place may be left out.
use Rattle.std.proofs.Common.{◌≡◌, ◌≢◌, ◌∙◌, refl, sym, ap, arith, inl, inr, ℕ, zero, suc, ◌+◌, ◌*◌, ◌-◌, ◌/◌, ◌%◌, ◌<◌, ◌≤◌, false, leb, eqb, min, List, [], ◌∷◌, ◌++◌, append_assoc, length, length-append, add-one, map, Option, Some, None}
use Rattle.std.specs.Prelude.{slice_index}
use Rattle.std.specs.List.{range_with_len}
use Rattle.std.proofs.lemmas.List.{map-append}
use Rattle.std.proofs.lemmas.Bool.{cases_Bool, cases_lt, le-leb, lt-leb, lt-ltb, le-ltb, eqb-true, eqb-false, ne_eqb, eq-eqb}
use Rattle.bidi_order.specs.Reversals.{reverse_runs, greatest, lesser, least_odd, reversals, from_least_odd, order}
use Rattle.bidi_order.specs.Laws.{without, past, MayBeLeftOut, LesserStandsForTwo}
use Rattle.bidi_order.proofs.LeavingOut.{Gone, twice, agreeing, unmoved, down, down_renamed, behind_down, before_down}

-- twice as much
abbrev pub double : ℕ → ℕ
double zero = 0
double (suc n) = suc (suc (double n))

pub doubled : (n : ℕ) → double n ≡ 2 * n
doubled zero = refl
doubled (suc n) = let e = doubled n in omega arith

-- ---- two reversals that cancel each other

-- no element has an odd level below that one
cancel : {X : Type 0} (level : X → ℕ) (n : ℕ) (xs : List X) → ((x : X) (k : ℕ) → k < n → level x ≢ suc (double k)) → down level (double n) xs ≡ xs
cancel level zero xs none = refl
cancel level (suc n) xs none =
    let same : (x : _) → leb (suc (double n)) (level x) ≡ leb (suc (suc (double n))) (level x) = λ x. agree (level x) (none x n (omega arith)) in
    let back : reverse_runs (λ x. leb (suc (double n)) (level x)) [] (reverse_runs (λ x. leb (suc (suc (double n))) (level x)) [] xs) ≡ xs =
    agreeing (λ x. leb (suc (double n)) (level x)) (λ x. leb (suc (suc (double n))) (level x)) [] (reverse_runs (λ x. leb (suc (suc (double n))) (level x)) [] xs) same
    ∙ twice (λ x. leb (suc (suc (double n))) (level x)) xs in
    ap (λ l. down level (double n) l) back ∙ cancel level n xs (λ x k lt. none x k (omega arith))
  where
    agree : (l : ℕ) → l ≢ suc (double n) → leb (suc (double n)) l ≡ leb (suc (suc (double n))) l
    agree l other = elim (cases_lt l (suc (double n))) [
      | inl low ↦ lt-leb (suc (double n)) l low ∙ sym (lt-leb (suc (suc (double n))) l (omega arith))
      | inr high ↦ le-leb (suc (double n)) l high ∙ sym (le-leb (suc (suc (double n))) l (above l other high))
    ]
      where
        above : (l : ℕ) → l ≢ suc (double n) → suc (double n) ≤ l → suc (suc (double n)) ≤ l
        above l other high = elim (cases_lt (suc (double n)) l) [
          | inl more ↦ omega arith
          | inr same ↦ absurd (other (omega arith))
        ]

-- a reversal above all levels moves nothing
pub high_down : {X : Type 0} (level : X → ℕ) (most n : ℕ) (xs : List X) → ((x : X) → level x ≤ most) → most ≤ n → down level n xs ≡ down level most xs
high_down level most zero xs all le = let e : most ≡ 0 = omega arith in rw e refl
high_down level most (suc n) xs all le = elim (cases_lt most (suc n)) [
  | inl low ↦
      let still : reverse_runs (λ x. leb (suc n) (level x)) [] xs ≡ xs = unmoved (λ x. leb (suc n) (level x)) xs (λ x. lt-leb (suc n) (level x) (let h = all x in omega arith)) in
      ap (λ l. down level n l) still ∙ high_down level most n xs all (omega arith)
  | inr same ↦ let e : most ≡ suc n = omega arith in rw e refl
]

-- the reversals from one level down to another come before those below it
pub down_reversals : (levels : List ℕ) (below n from : ℕ) (places : List ℕ) → below + n ≡ from → down (λ p. slice_index levels p) from places ≡ down (λ p. slice_index levels p) below (reversals levels (suc below) n places)
down_reversals levels below zero from places e = let e' : from ≡ below = omega arith in rw e' refl
down_reversals levels below (suc n) zero places e = absurd (omega arith)
down_reversals levels below (suc n) (suc from) places e =
    let e' : suc below + n ≡ suc from = omega arith in
    rw e' (down_reversals levels below n from (reverse_runs (λ p. leb (suc from) (slice_index levels p)) [] places) (omega arith))

-- ---- the least odd level, and the greatest

pub at_most : (levels : List ℕ) (p : ℕ) → slice_index levels p ≤ greatest levels
at_most [] p = omega arith
at_most (l ∷ levels) zero = omega arith
at_most (l ∷ levels) (suc p) = let h = at_most levels p in omega arith

pub record IsLeastOdd (levels : List ℕ) (lowest : ℕ) : Type 0 where
  pub odd : lowest % 2 ≡ 1
  high : lowest ≤ greatest levels
  least : (p : ℕ) → slice_index levels p % 2 ≡ 1 → lowest ≤ slice_index levels p

abbrev pub HasLeast : List ℕ → Option ℕ → Type 0
HasLeast levels None = (p : ℕ) → slice_index levels p % 2 ≢ 1
HasLeast levels (Some lowest) = IsLeastOdd levels lowest

odd_more : (l : ℕ) (levels : List ℕ) (o : Option ℕ) → l % 2 ≡ 1 → HasLeast levels o → HasLeast (l ∷ levels) (lesser l o)
odd_more l levels None odd has = record {
  odd = odd;
  high = omega arith;
  least = λ p. at p;
} where
  at : (p : ℕ) → slice_index (l ∷ levels) p % 2 ≡ 1 → l ≤ slice_index (l ∷ levels) p
  at zero e = omega arith
  at (suc p) e = absurd (has p e)
odd_more l levels (Some lowest) odd has = elim (cases_lt l lowest) [
  | inl low ↦ let e : min l lowest ≡ l = omega arith in rw e (record { odd = odd; high = omega arith; least = λ p. at l p (omega arith) (omega arith) })
  | inr high ↦ let e : min l lowest ≡ lowest = omega arith in rw e (record { odd = has.odd; high = let h = has.high in omega arith; least = λ p. at lowest p high (omega arith) })
] where
  at : (m p : ℕ) → m ≤ l → m ≤ lowest → slice_index (l ∷ levels) p % 2 ≡ 1 → m ≤ slice_index (l ∷ levels) p
  at m zero le le' e = le
  at m (suc p) le le' e = let h = has.least p e in omega arith

even_more : (l : ℕ) (levels : List ℕ) (o : Option ℕ) → l % 2 ≢ 1 → HasLeast levels o → HasLeast (l ∷ levels) o
even_more l levels None even has = λ p. none p where
  none : (p : ℕ) → slice_index (l ∷ levels) p % 2 ≢ 1
  none zero = even
  none (suc p) = has p
even_more l levels (Some lowest) even has = record { odd = has.odd; high = let h = has.high in omega arith; least = λ p. at p } where
  at : (p : ℕ) → slice_index (l ∷ levels) p % 2 ≡ 1 → lowest ≤ slice_index (l ∷ levels) p
  at zero e = absurd (even e)
  at (suc p) e = has.least p e

pub has_least : (levels : List ℕ) → HasLeast levels (least_odd levels)
has_least [] = λ p e. absurd (omega arith)
has_least (l ∷ levels) = elim (cases_Bool (eqb (l % 2) 1)) [
  | inl odd ↦ rw odd (odd_more l levels (least_odd levels) (eqb-true (l % 2) 1 odd) (has_least levels))
  | inr even ↦ rw even (even_more l levels (least_odd levels) (eqb-false (l % 2) 1 even) (has_least levels))
]

-- ---- the order by all levels

-- an odd number is one more than an even one
record IsOdd (n : ℕ) : Type 0 where
  half : ℕ
  is : n ≡ suc (double half)

odd_is : (n : ℕ) → n % 2 ≡ 1 → IsOdd n
odd_is n e = record { half = n / 2; is = let d = doubled (n / 2) in omega arith }

odd_double : (k : ℕ) → suc (double k) % 2 ≡ 1
odd_double k = let d = doubled k in omega arith

pub by_all : (levels : List ℕ) (o : Option ℕ) (n : ℕ) (places : List ℕ) → HasLeast levels o → greatest levels ≤ double n → from_least_odd levels o places ≡ down (λ p. slice_index levels p) (double n) places
by_all levels None n places has le = sym (cancel (λ p. slice_index levels p) n places (λ p k lt e. has p (ap (λ (l : ℕ). l % 2) e ∙ odd_double k)))
by_all levels (Some lowest) n places has le =
    let half = odd_is lowest has.odd in
    let is : lowest ≡ suc (double half.half) = half.is in
    let high : lowest ≤ greatest levels = has.high in
    let many : ℕ = greatest levels + 1 - lowest in
    let top : double half.half + many ≡ greatest levels = omega arith in
    let none : (p k : ℕ) → k < half.half → slice_index levels p ≢ suc (double k) = λ p k lt e.
    let odd : slice_index levels p % 2 ≡ 1 = ap (λ (l : ℕ). l % 2) e ∙ odd_double k in
    let h : lowest ≤ slice_index levels p = has.least p odd in
    let d = doubled k in
    let d' = doubled half.half in
    omega arith in
    let low : down (λ p. slice_index levels p) (double half.half) (reversals levels (suc (double half.half)) many places) ≡ reversals levels (suc (double half.half)) many places =
    cancel (λ p. slice_index levels p) half.half (reversals levels (suc (double half.half)) many places) none in
    let same : reversals levels lowest many places ≡ reversals levels (suc (double half.half)) many places = ap (λ (l : ℕ). reversals levels l many places) is in
    same ∙ sym low ∙ sym (down_reversals levels (double half.half) many (greatest levels) places top)
    ∙ sym (high_down (λ p. slice_index levels p) (greatest levels) (double n) places (at_most levels) le)

order_down : (levels : List ℕ) (n : ℕ) → greatest levels ≤ double n → order levels ≡ down (λ p. slice_index levels p) (double n) (range_with_len 0 (length levels))
unfolding order
order_down levels n le = by_all levels (least_odd levels) n (range_with_len 0 (length levels)) (has_least levels) le

-- ---- places

without_there : (n : ℕ) (xs ys : List ℕ) → without n (xs ++ n ∷ ys) ≡ without n (xs ++ ys)
without_there n [] ys = rw (eq-eqb n n refl) refl
without_there n (x ∷ xs) ys = elim (cases_Bool (eqb x n)) [
  | inl same ↦ rw same (without_there n xs ys)
  | inr other ↦ rw other (ap (λ l. x ∷ l) (without_there n xs ys))
]

without_gone : (n : ℕ) (xs ys : List ℕ) → Gone n xs ys → without n xs ≡ without n ys
without_gone n xs ys g = rw (g.with_, g.less) (without_there n g.before g.after)

past_low : (n p : ℕ) → p < n → past n p ≡ p
past_low n p lt = rw (lt-ltb p n lt) refl

past_high : (n p : ℕ) → n ≤ p → past n p ≡ p + 1
past_high n p le = rw (le-ltb p n le) refl

past_other : (n p : ℕ) → eqb (past n p) n ≡ false
past_other n p = elim (cases_lt p n) [
  | inl low ↦ rw (past_low n p low) (ne_eqb p n (λ e. omega arith))
  | inr high ↦ rw (past_high n p high) (ne_eqb (p + 1) n (λ e. omega arith))
]

without_past : (n : ℕ) (places : List ℕ) → without n (map (past n) places) ≡ map (past n) places
without_past n [] = refl
without_past n (p ∷ places) = rw (past_other n p) (ap (λ l. past n p ∷ l) (without_past n places))

range_parts : (a m b n t : ℕ) → a + m ≡ b → m + n ≡ t → range_with_len a t ≡ range_with_len a m ++ range_with_len b n
range_parts a zero b n t e e' = let x : b ≡ a = omega arith in let y : t ≡ n = omega arith in rw (x, y) refl
range_parts a (suc m) b n zero e e' = absurd (omega arith)
range_parts a (suc m) b n (suc t) e e' = ap (λ l. a ∷ l) (range_parts (a + 1) m b n t (omega arith) (omega arith))

range_low : (n a m : ℕ) → a + m ≤ n → map (past n) (range_with_len a m) ≡ range_with_len a m
range_low n a zero le = refl
range_low n a (suc m) le = rw (past_low n a (omega arith), range_low n (a + 1) m (omega arith)) refl

range_high : (n a m : ℕ) → n ≤ a → map (past n) (range_with_len a m) ≡ range_with_len (a + 1) m
range_high n a zero le = refl
range_high n a (suc m) le = rw (past_high n a le, range_high n (a + 1) m (omega arith)) refl

past_more : (n p : ℕ) → past (suc n) (suc p) ≡ suc (past n p)
past_more n p = elim (cases_lt p n) [
  | inl low ↦ rw (past_low n p low) (past_low (suc n) (suc p) (omega arith))
  | inr high ↦ rw (past_high n p high) (past_high (suc n) (suc p) (omega arith) ∙ omega arith)
]

-- the levels of the others
read_past : (xs ys : List ℕ) (a p : ℕ) → slice_index (xs ++ a ∷ ys) (past (length xs) p) ≡ slice_index (xs ++ ys) p
read_past [] ys a p = rw (past_high 0 p (omega arith), add-one) refl
read_past (x ∷ xs) ys a zero = rw (past_low (suc (length xs)) 0 (omega arith)) refl
read_past (x ∷ xs) ys a (suc p) = rw (past_more (length xs) p) (read_past xs ys a p)

read_first : (xs ys : List ℕ) (a : ℕ) → slice_index (xs ++ a ∷ ys) (length xs) ≡ a
read_first [] ys a = refl
read_first (x ∷ xs) ys a = read_first xs ys a

read_second : (xs ys : List ℕ) (a b : ℕ) → slice_index (xs ++ a ∷ b ∷ ys) (length xs + 1) ≡ b
read_second [] ys a b = refl
read_second (x ∷ xs) ys a b = rw (add-one) (rw add-one at (read_second xs ys a b))

-- ---- a place may be left out

module _ (levels others : List ℕ) (n : ℕ) (same : (p : ℕ) → slice_index levels (past n p) ≡ slice_index others p) where
  abbrev high : ℕ
  high = greatest levels + greatest others

  abbrev leveled : List ℕ → List ℕ
  leveled places = down (λ p. slice_index levels p) (double high) places

  -- where the place is gone from all places, it is gone from the order
  left_out : (with_ less : List ℕ) → range_with_len 0 (length levels) ≡ with_ → map (past n) (range_with_len 0 (length others)) ≡ less → Gone n (leveled with_) (leveled less)
      → without n (order levels) ≡ map (past n) (order others)
  left_out with_ less is is' gone =
      let d = doubled high in
      let first : order levels ≡ leveled with_ = order_down levels high (omega arith) ∙ ap leveled is in
      let second : map (past n) (order others) ≡ leveled less =
      ap (λ l. map (past n) l) (order_down others high (omega arith))
      ∙ down_renamed (past n) (λ p. slice_index others p) (λ p. slice_index levels p) (double high) (range_with_len 0 (length others)) same ∙ ap leveled is' in
      ap (without n) first ∙ without_gone n (leveled with_) (leveled less) gone ∙ ap (without n) (sym second) ∙ without_past n (order others)

before_lower : (before after : List ℕ) (lower level : ℕ) → lower ≤ level → without (length before) (order (before ++ level ∷ lower ∷ after)) ≡ map (past (length before)) (order (before ++ lower ∷ after))
before_lower before after lower level le =
    let n : ℕ = length before in
    let m : ℕ = length after in
    let levels : List ℕ = before ++ level ∷ lower ∷ after in
    let others : List ℕ = before ++ lower ∷ after in
    let many : length levels ≡ n + suc (suc m) = length-append before (level ∷ lower ∷ after) in
    let many' : length others ≡ n + suc m = length-append before (lower ∷ after) in
    let all : range_with_len 0 (length levels) ≡ range_with_len 0 n ++ n ∷ (n + 1) ∷ range_with_len (n + 1 + 1) m = range_parts 0 n n (suc (suc m)) (length levels) (omega arith) (sym many) in
    let rest : map (past n) (range_with_len 0 (length others)) ≡ range_with_len 0 n ++ (n + 1) ∷ range_with_len (n + 1 + 1) m =
    ap (λ l. map (past n) l) (range_parts 0 n n (suc m) (length others) (omega arith) (sym many'))
    ∙ map-append (past n) (range_with_len 0 n) (range_with_len n (suc m)) ∙ rw (range_low n 0 n (omega arith), range_high n n (suc m) (omega arith)) refl in
    let own : slice_index levels n ≡ level = read_first before (lower ∷ after) level in
    let next : slice_index levels (n + 1) ≡ lower = read_second before after level lower in
    left_out levels others n (read_past before (lower ∷ after) level) (range_with_len 0 n ++ n ∷ (n + 1) ∷ range_with_len (n + 1 + 1) m) (range_with_len 0 n ++ (n + 1) ∷ range_with_len (n + 1 + 1) m) all rest
    (before_down (λ p. slice_index levels p) n (n + 1) (double (greatest levels + greatest others)) (range_with_len 0 n) (range_with_len (n + 1 + 1) m) (omega arith))

behind_lower : (before after : List ℕ) (lower level : ℕ) → lower ≤ level → without (length before + 1) (order (before ++ lower ∷ level ∷ after)) ≡ map (past (length before + 1)) (order (before ++ lower ∷ after))
behind_lower before after lower level le =
    let k : ℕ = length before in
    let m : ℕ = length after in
    let levels : List ℕ = before ++ lower ∷ level ∷ after in
    let others : List ℕ = before ++ lower ∷ after in
    let many : length levels ≡ k + suc (suc m) = length-append before (lower ∷ level ∷ after) in
    let many' : length others ≡ k + suc m = length-append before (lower ∷ after) in
    let all : range_with_len 0 (length levels) ≡ range_with_len 0 k ++ k ∷ (k + 1) ∷ range_with_len (k + 1 + 1) m = range_parts 0 k k (suc (suc m)) (length levels) (omega arith) (sym many) in
    let rest : map (past (k + 1)) (range_with_len 0 (length others)) ≡ range_with_len 0 k ++ k ∷ range_with_len (k + 1 + 1) m =
    ap (λ l. map (past (k + 1)) l) (range_parts 0 k k (suc m) (length others) (omega arith) (sym many'))
    ∙ map-append (past (k + 1)) (range_with_len 0 k) (range_with_len k (suc m)) ∙ rw (range_low (k + 1) 0 k (omega arith), past_low (k + 1) k (omega arith), range_high (k + 1) (k + 1) m (omega arith)) refl in
    let own : slice_index levels k ≡ lower = read_first before (level ∷ after) lower in
    let next : slice_index levels (k + 1) ≡ level = read_second before after lower level in
    let longer : length (before ++ lower ∷ []) ≡ k + 1 = length-append before (lower ∷ []) in
    let same : (p : ℕ) → slice_index levels (past (k + 1) p) ≡ slice_index others p = λ p. rw (longer, append_assoc before (lower ∷ []) (level ∷ after), append_assoc before (lower ∷ []) after) at (read_past (before ++ lower ∷ []) after level p) in
    left_out levels others (k + 1) same (range_with_len 0 k ++ k ∷ (k + 1) ∷ range_with_len (k + 1 + 1) m) (range_with_len 0 k ++ k ∷ range_with_len (k + 1 + 1) m) all rest
    (behind_down (λ p. slice_index levels p) (k + 1) k (double (greatest levels + greatest others)) (range_with_len 0 k) (range_with_len (k + 1 + 1) m) (omega arith))

pub may_be_left_out : MayBeLeftOut
may_be_left_out = record { behind = behind_lower; before = before_lower }

-- ---- the lesser of two stands for both

-- the place before it can be left out first or last
before_past : (n p : ℕ) → eqb (past (n + 1) p) n ≡ eqb p n
before_past n p = elim (cases_lt p (n + 1)) [
  | inl low ↦ rw (past_low (n + 1) p low) refl
  | inr high ↦ rw (past_high (n + 1) p high) (ne_eqb (p + 1) n (λ e. omega arith) ∙ sym (ne_eqb p n (λ e. omega arith)))
]

without_before : (n : ℕ) (places : List ℕ) → without n (map (past (n + 1)) places) ≡ map (past (n + 1)) (without n places)
without_before n [] = refl
without_before n (p ∷ places) = elim (cases_Bool (eqb p n)) [
  | inl same ↦ rw (before_past n p, same) (without_before n places)
  | inr other ↦ rw (before_past n p, other) (ap (λ l. past (n + 1) p ∷ l) (without_before n places))
]

behind_past : (n p : ℕ) → eqb (past n p) (n + 1) ≡ eqb p n
behind_past n p = elim (cases_lt p n) [
  | inl low ↦ rw (past_low n p low) (ne_eqb p (n + 1) (λ e. omega arith) ∙ sym (ne_eqb p n (λ e. omega arith)))
  | inr high ↦ rw (past_high n p high) (shifted p)
] where
  shifted : (p : ℕ) → eqb (p + 1) (n + 1) ≡ eqb p n
  shifted p = elim (cases_Bool (eqb p n)) [
    | inl same ↦ let e : p ≡ n = eqb-true p n same in rw (e, eq-eqb n n refl) (eq-eqb (n + 1) (n + 1) refl)
    | inr other ↦ rw other (ne_eqb (p + 1) (n + 1) (λ e. eqb-false p n other (omega arith)))
  ]

same_past : (n p : ℕ) → eqb p n ≡ false → past n p ≡ past (n + 1) p
same_past n p other = elim (cases_lt p n) [
  | inl low ↦ past_low n p low ∙ sym (past_low (n + 1) p (omega arith))
  | inr high ↦ past_high n p high ∙ sym (past_high (n + 1) p (above high))
] where
  above : n ≤ p → n + 1 ≤ p
  above le = elim (cases_lt n p) [
    | inl more ↦ omega arith
    | inr same ↦ absurd (eqb-false p n other (omega arith))
  ]

without_behind : (n : ℕ) (places : List ℕ) → without (n + 1) (map (past n) places) ≡ map (past (n + 1)) (without n places)
without_behind n [] = refl
without_behind n (p ∷ places) = elim (cases_Bool (eqb p n)) [
  | inl same ↦ rw (behind_past n p, same) (without_behind n places)
  | inr other ↦ rw (behind_past n p, other, same_past n p other) (ap (λ l. past (n + 1) p ∷ l) (without_behind n places))
]

without_both : (n m : ℕ) (places : List ℕ) → without n (without m places) ≡ without m (without n places)
without_both n m [] = refl
without_both n m (p ∷ places) = elim (cases_Bool (eqb p n)) [
  | inl is_n ↦ elim (cases_Bool (eqb p m)) [
    | inl is_m ↦ rw (is_n, is_m) (without_both n m places)
    | inr other ↦ rw (is_n, other) (rw is_n (without_both n m places))
  ]
  | inr other_n ↦ elim (cases_Bool (eqb p m)) [
    | inl is_m ↦ rw (other_n, is_m) (without_both n m places)
    | inr other ↦ rw (other_n, other) (rw other_n (ap (λ l. p ∷ l) (without_both n m places)))
  ]
]

pub lesser_stands_for_two : LesserStandsForTwo
lesser_stands_for_two before after first second = elim (cases_lt first second) [
  | inl low ↦
      let e : min first second ≡ first = omega arith in
      rw (e, behind_lower before after first second (omega arith)) (without_before (length before) (order (before ++ first ∷ after)))
  | inr high ↦
      let e : min first second ≡ second = omega arith in
      rw e (without_both (length before) (length before + 1) (order (before ++ first ∷ second ∷ after))
      ∙ ap (without (length before + 1)) (before_lower before after second first high) ∙ without_behind (length before) (order (before ++ second ∷ after)))
]
