-- A line whose items all have level 0 stands as it is, whatever parts them: of the seats that L2 turns round no two are
-- neighbours.
use Rattle.std.proofs.Common.{◌≡◌, ◌∙◌, refl, sym, ap, arith, inl, inr, ℕ, zero, suc, ◌+◌, ◌-◌, ◌%◌, ◌<◌, Bool, false, leb, eqb, add-one, List, [], ◌∷◌, length, map, Option, Some, None, slice_index_or}
use Rattle.std.specs.Prelude.{slice_index}
use Rattle.std.specs.List.{All, cons_option, filter_map, range_with_len}
use Rattle.std.proofs.lemmas.List.{length-map}
use Rattle.std.proofs.lemmas.Bool.{cases_Bool, eqb-true, lt-leb}
use Rattle.bidi_order.specs.Reversals.{reverse_runs, greatest, lesser, least_odd, reversals, from_least_odd, order}
use Rattle.bidi_order.specs.Visual.{seat, seats, seats_from, visual_order, within_line}
use Rattle.bidi_order.specs.declared.visual.Seat.{Seat}
use Rattle.bidi_order.specs.Laws.{LevelZeroStays}
use Rattle.bidi_order.proofs.LeavingOut.{renamed}
use Rattle.bidi_order.proofs.VisualLaws.{within_length}

-- ---- one reversal

-- where items don't pass, nothing moves
still : (passes : Seat → Bool) (item : ℕ) (levels : List ℕ) (aparts : List (Option ℕ)) → ((k : ℕ) → passes (seat 0 (Some k)) ≡ false) → greatest levels ≡ 0
    → reverse_runs passes [] (seats_from item levels aparts) ≡ seats_from item levels aparts
still passes item [] aparts none flat = refl
still passes item (level ∷ levels) [] none flat = refl
still passes item (level ∷ levels) (None ∷ aparts) none flat =
    let e : level ≡ 0 = omega arith in
    let out : passes (seat level (Some item)) ≡ false = ap (λ (l : ℕ). passes (seat l (Some item))) e ∙ none item in
    rw out (ap (λ (l : List Seat). seat level (Some item) ∷ l) (still passes (item + 1) levels aparts none (omega arith)))
still passes item (level ∷ levels) (Some apart ∷ aparts) none flat =
    let e : level ≡ 0 = omega arith in
    let out : passes (seat level (Some item)) ≡ false = ap (λ (l : ℕ). passes (seat l (Some item))) e ∙ none item in
    let rest = ap (λ (l : List Seat). seat apart None ∷ seat level (Some item) ∷ l) (still passes (item + 1) levels aparts none (omega arith)) in
    elim (cases_Bool (passes (seat apart None))) [
      | inl in_ ↦ rw (in_, out) rest
      | inr other ↦ rw (other, out) rest
    ]

-- ---- the seats by their places

abbrev own_level : Seat → ℕ
own_level s = s.level

abbrev look : List Seat → ℕ → Seat
look ss p = slice_index_or ss p (seat 0 None)

read_level : (ss : List Seat) (p : ℕ) → (look ss p).level ≡ slice_index (map own_level ss) p
read_level [] p = refl
read_level (s ∷ ss) zero = refl
read_level (s ∷ ss) (suc p) = read_level ss p

later : (s : Seat) (ss : List Seat) (at n : ℕ) → map (look (s ∷ ss)) (range_with_len (at + 1) n) ≡ map (look ss) (range_with_len at n)
later s ss at zero = refl
later s ss at (suc n) =
    let read : look (s ∷ ss) (at + 1) ≡ look ss at = rw add-one refl in
    rw (later s ss (at + 1) n, read) refl

in_order : (ss : List Seat) → map (look ss) (range_with_len 0 (length ss)) ≡ ss
in_order [] = refl
in_order (s ∷ ss) = ap (λ (l : List Seat). s ∷ l) (later s ss 0 (length ss) ∙ in_order ss)

-- ---- all reversals

module _ (ss : List Seat) (stays : (k : ℕ) → 0 < k → reverse_runs (λ (s : Seat). leb k s.level) [] ss ≡ ss) where
  turned : (least n : ℕ) (places : List ℕ) → 0 < least → map (look ss) places ≡ ss → map (look ss) (reversals (map own_level ss) least n places) ≡ ss
  turned least zero places high is = is
  turned least (suc n) places high is =
      turned least n (reverse_runs (λ p. leb (least + n) (slice_index (map own_level ss) p)) [] places) high
      (renamed (look ss) (λ p. leb (least + n) (slice_index (map own_level ss) p)) (λ (s : Seat). leb (least + n) s.level) [] places (λ p. ap (λ (l : ℕ). leb (least + n) l) (read_level ss p))
      ∙ ap (λ (l : List Seat). reverse_runs (λ (s : Seat). leb (least + n) s.level) [] l) is
      ∙ stays (least + n) (omega arith))

  abbrev IsHigh : Option ℕ → Type 0
  IsHigh None = Unit {0}
  IsHigh (Some least) = 0 < least

  turned_if : (least : Option ℕ) (places : List ℕ) → IsHigh least → map (look ss) places ≡ ss → map (look ss) (from_least_odd (map own_level ss) least places) ≡ ss
  turned_if None places high is = is
  turned_if (Some least) places high is = turned least (greatest (map own_level ss) + 1 - least) places high is

  lesser_high : (l : ℕ) (o : Option ℕ) → 0 < l → IsHigh o → IsHigh (lesser l o)
  lesser_high l None low high = low
  lesser_high l (Some least) low high = omega arith

  odd_high : (levels : List ℕ) → IsHigh (least_odd levels)
  odd_high [] = tt
  odd_high (l ∷ levels) = elim (cases_Bool (eqb (l % 2) 1)) [
    | inl odd ↦ let e = eqb-true (l % 2) 1 odd in rw odd (lesser_high l (least_odd levels) (omega arith) (odd_high levels))
    | inr even ↦ rw even (odd_high levels)
  ]

  ordered : map (look ss) (order (map own_level ss)) ≡ ss
  unfolding order
  ordered =
      turned_if (least_odd (map own_level ss)) (range_with_len 0 (length (map own_level ss))) (odd_high (map own_level ss))
      (ap (λ (n : ℕ). map (look ss) (range_with_len 0 n)) (length-map ss own_level) ∙ in_order ss)

-- ---- the items alone

by_seats : (ss : List Seat) (places : List ℕ) → filter_map (λ p. (look ss p).item) places ≡ filter_map (λ (s : Seat). s.item) (map (look ss) places)
by_seats ss [] = refl
by_seats ss (p ∷ places) = ap (cons_option (look ss p).item) (by_seats ss places)

items_are : (item : ℕ) (levels : List ℕ) (aparts : List (Option ℕ)) → length levels ≡ length aparts → filter_map (λ (s : Seat). s.item) (seats_from item levels aparts) ≡ range_with_len item (length levels)
items_are item [] aparts same = refl
items_are item (level ∷ levels) [] same = absurd (omega arith)
items_are item (level ∷ levels) (None ∷ aparts) same = ap (λ (l : List ℕ). item ∷ l) (items_are (item + 1) levels aparts (omega arith))
items_are item (level ∷ levels) (Some apart ∷ aparts) same = ap (λ (l : List ℕ). item ∷ l) (items_are (item + 1) levels aparts (omega arith))

pub stands : (levels : List ℕ) (aparts : List (Option ℕ)) → length levels ≡ length aparts → greatest levels ≡ 0 → visual_order levels aparts ≡ range_with_len 0 (length levels)
unfolding visual_order
stands levels aparts same flat =
    let ss : List Seat = seats levels aparts in
    by_seats ss (order (map own_level ss))
    ∙ ap (filter_map (λ (s : Seat). s.item)) (ordered ss (λ k high. still (λ (s : Seat). leb k s.level) 0 levels (within_line aparts) (λ item. lt-leb k 0 high) flat))
    ∙ items_are 0 levels (within_line aparts) (same ∙ sym (within_length aparts))

flat : (levels : List ℕ) → All (λ level. level ≡ 0) levels → greatest levels ≡ 0
flat [] all = refl
flat (level ∷ levels) all =
    let e : level ≡ 0 = all 0 0 (omega arith) in
    let h : greatest levels ≡ 0 = flat levels (λ k d lt. all (suc k) d (omega arith)) in
    omega arith

pub level_zero_stays : LevelZeroStays
level_zero_stays levels aparts same all = stands levels aparts same (flat levels all)
