-- A line whose characters all have the base level: L1 changes none of them, and L2 turns all of it or nothing round.
use Rattle.std.proofs.Common.{◌≡◌, ◌∙◌, refl, sym, ap, arith, inl, inr, ℕ, zero, suc, ◌+◌, ◌-◌, ◌%◌, ◌==◌, ◌≤◌, Bool, true, false, cond, leb, eqb, List, [], ◌∷◌, ◌++◌, append-nil, length, get_or, drop, map, reverse, min, Option, Some, None}
use Rattle.std.specs.Prelude.{IsPermutation, slice_index}
use Rattle.std.specs.List.{list_all, range_with_len, slice_range}
use Rattle.std.proofs.lemmas.List.{length-map, map-append, reverse-append}
use Rattle.std.proofs.lemmas.List.Sorted.{IsPermutation-refl, IsPermutation-reverse}
use Rattle.std.proofs.lemmas.Bool.{and_parts, cases_Bool, eqb-true, le-leb}
use Rattle.basic_laws.proofs.Lists.{range_empty}
use Rattle.wm_chars.specs.Classes.{is_removed}
use Rattle.wm_chars.specs.declared.classes.BidiClass.{BidiClass}
use Rattle.wm_chars.specs.declared.classes.BidiClass.TheVariants.{L}
use Rattle.bidi_resolve.specs.Places.{gathered}
use Rattle.bidi_order.specs.Blanks.{leads_out, reset}
use Rattle.bidi_order.specs.Line.{line_order, line_places, turned}
use Rattle.bidi_order.specs.Reversals.{reverse_runs, from_least_odd, greatest, least_odd, order, reversals}
use Rattle.bidi_order.proofs.LeavingOut.{AllPass, put_back}
use Rattle.bidi_order.proofs.Levels.{own}
use Rattle.bidi_order.proofs.LineLaws.{in_order, kept_more, slice_more}

-- ---- levels that are all the same

abbrev AreLevel : ℕ → List ℕ → Type 0
AreLevel base [] = Unit {0}
AreLevel base (level ∷ levels) = (level ≡ base) × AreLevel base levels

chosen_same : (b : Bool) (level base : ℕ) → level ≡ base → cond b base level ≡ level
chosen_same true level base e = sym e
chosen_same false level base e = refl

reset_same : (base : ℕ) (levels : List ℕ) (classes : List BidiClass) → AreLevel base levels → reset base levels classes ≡ levels
unfolding reset
reset_same base [] classes all = refl
reset_same base (level ∷ levels) [] all = refl
reset_same base (level ∷ levels) (c ∷ classes) all =
    rw (chosen_same (leads_out (c ∷ classes)) level base all.0) (ap (λ (l : List ℕ). level ∷ l) (reset_same base levels classes all.1))

from_all : (base : ℕ) (levels : List ℕ) → list_all (λ l. l == base) levels ≡ true → AreLevel base levels
from_all base [] all = tt
from_all base (level ∷ levels) all =
    let parts = and_parts (level == base) (list_all (λ l. l == base) levels) all in
    (eqb-true level base parts.0, from_all base levels parts.1)

pub stay : (base : ℕ) (levels : List ℕ) (classes : List BidiClass) → list_all (λ l. l == base) levels ≡ true → reset base levels classes ≡ levels
stay base levels classes all = reset_same base levels classes (from_all base levels all)

greatest_same : (base level : ℕ) (levels : List ℕ) → AreLevel base (level ∷ levels) → greatest (level ∷ levels) ≡ base
greatest_same base level [] all = let e : level ≡ base = all.0 in omega arith
greatest_same base level (next ∷ levels) all =
    let e : level ≡ base = all.0 in
    let h : greatest (next ∷ levels) ≡ base = greatest_same base next levels all.1 in
    omega arith

no_odd : (base : ℕ) (levels : List ℕ) → eqb (base % 2) 1 ≡ false → AreLevel base levels → least_odd levels ≡ None
no_odd base [] even all = refl
no_odd base (level ∷ levels) even all = rw (all.0, even) (no_odd base levels even all.1)

one_odd : (base level : ℕ) (levels : List ℕ) → eqb (base % 2) 1 ≡ true → AreLevel base (level ∷ levels) → least_odd (level ∷ levels) ≡ Some base
one_odd base level [] odd all = rw (all.0, odd) refl
one_odd base level (next ∷ levels) odd all =
    let e : min base base ≡ base = omega arith in
    rw (all.0, odd, one_odd base next levels odd all.1) (ap Some e)

-- ---- L2 on them

passing : (base : ℕ) (levels : List ℕ) → AreLevel base levels → AllPass (λ l. leb base l) levels
passing base [] all = tt
passing base (level ∷ levels) all = let e : level ≡ base = all.0 in (le-leb base level (omega arith), passing base levels all.1)

told_alike : (f g : ℕ → Bool) (xs ys : List ℕ) → map f xs ≡ map g ys → AllPass g ys → AllPass f xs
told_alike f g [] ys e all = tt
told_alike f g (x ∷ xs) [] e all = absurd (cc)
told_alike f g (x ∷ xs) (y ∷ ys) e all =
    let head : f x ≡ g y = ap (λ (l : List Bool). get_or l 0 false) e in
    let tail : map f xs ≡ map g ys = ap (λ (l : List Bool). drop 1 l) e in
    (head ∙ all.0, told_alike f g xs ys tail all.1)

order_even : (base : ℕ) (levels : List ℕ) → eqb (base % 2) 1 ≡ false → AreLevel base levels → order levels ≡ range_with_len 0 (length levels)
unfolding order
order_even base levels even all = rw (no_odd base levels even all) refl

order_odd : (base : ℕ) (levels : List ℕ) → eqb (base % 2) 1 ≡ true → AreLevel base levels → order levels ≡ reverse (range_with_len 0 (length levels))
unfolding order
order_odd base [] odd all = refl
order_odd base (level ∷ levels) odd all =
    let own_levels : List ℕ = level ∷ levels in
    let places : List ℕ = range_with_len 0 (length own_levels) in
    let one : greatest own_levels + 1 - base ≡ 1 = let h = greatest_same base level levels all in omega arith in
    let low : base + 0 ≡ base = omega arith in
    let pass : AllPass (λ p. leb base (slice_index own_levels p)) places =
    told_alike (λ p. leb base (slice_index own_levels p)) (λ l. leb base l) places own_levels (own base own_levels) (passing base own_levels all) in
    ap (λ (o : Option ℕ). from_least_odd own_levels o places) (one_odd base level levels odd all)
    ∙ ap (λ (n : ℕ). reversals own_levels base n places) one
    ∙ ap (λ (k : ℕ). reverse_runs (λ p. leb k (slice_index own_levels p)) [] places) low
    ∙ put_back (λ p. leb base (slice_index own_levels p)) [] places pass
    ∙ append-nil (reverse places)

-- ---- the line

map_reverse : (f : ℕ → ℕ) (xs : List ℕ) → map f (reverse xs) ≡ reverse (map f xs)
map_reverse f [] = refl
map_reverse f (x ∷ xs) =
    ap (map f) (reverse-append (x ∷ []) xs) ∙ map-append f (reverse xs) (x ∷ [])
    ∙ ap (λ (l : List ℕ). l ++ f x ∷ []) (map_reverse f xs) ∙ sym (reverse-append (f x ∷ []) (map f xs))

kept_level : (base : ℕ) (levels places : List ℕ) (at : ℕ) (b : Bool) → get_or levels at 0 ≡ base → AreLevel base (gathered 0 levels places) → AreLevel base (gathered 0 levels (cond b [] (at ∷ []) ++ places))
kept_level base levels places at true e all = all
kept_level base levels places at false e all = (e, all)

line_level : (base : ℕ) (levels : List ℕ) (classes : List BidiClass) (n at stop : ℕ) → at + n ≡ stop → stop ≤ length levels → stop ≤ length classes
    → list_all (λ l. l == base) (slice_range levels at stop) ≡ true → AreLevel base (gathered 0 levels (line_places classes at stop))
line_level base levels classes zero at stop e in_ in' all =
    let e' : stop ≡ at = omega arith in
    rw (e', range_empty classes at) tt
line_level base levels classes (suc n) at stop e in_ in' all =
    let parts = and_parts (get_or levels at 0 == base) (list_all (λ l. l == base) (slice_range levels (at + 1) stop)) (rw (slice_more levels at stop 0 (omega arith) (omega arith)) at all) in
    rw (kept_more classes at stop L (omega arith) in')
    (kept_level base levels (line_places classes (at + 1) stop) at (is_removed (get_or classes at L)) (eqb-true (get_or levels at 0) base parts.0)
    (line_level base levels classes n (at + 1) stop (omega arith) in_ in' parts.1))

-- in a line whose characters all have the base level
pub of_base : (base : ℕ) (levels : List ℕ) (classes : List BidiClass) (start stop : ℕ) → start ≤ stop → stop ≤ length levels → length levels ≡ length classes
    → list_all (λ l. l == base) (slice_range levels start stop) ≡ true → line_order base levels classes start stop ≡ turned base (line_places classes start stop)
unfolding line_order
of_base base levels classes start stop begun within same all =
    let places : List ℕ = line_places classes start stop in
    let level : AreLevel base (gathered 0 levels places) = line_level base levels classes (stop - start) start stop (omega arith) within (omega arith) all in
    let many : length (gathered 0 levels places) ≡ length places = length-map places (λ k. get_or levels k 0) in
    ap (λ (l : List ℕ). gathered 0 places (order l)) (reset_same base (gathered 0 levels places) (gathered L classes places) level)
    ∙ elim (cases_Bool (eqb (base % 2) 1)) [
      | inl odd ↦ rw (odd, order_odd base (gathered 0 levels places) odd level, many)
          (map_reverse (λ k. get_or places k 0) (range_with_len 0 (length places)) ∙ ap reverse (in_order places))
      | inr even ↦ rw (even, order_even base (gathered 0 levels places) even level, many) (in_order places)
    ]

pub turned_rearranged : (base : ℕ) (places : List ℕ) → IsPermutation places (turned base places)
turned_rearranged base places = elim (cases_Bool (eqb (base % 2) 1)) [
  | inl odd ↦ rw odd (IsPermutation-reverse places)
  | inr even ↦ rw even (IsPermutation-refl places)
]
