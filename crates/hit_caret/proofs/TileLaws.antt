-- The cells of a run tile its rectangle.
use Rattle.std.proofs.Common.{◌≡◌, refl, sym, ap, subst, ◌∙◌, ℕ, ◌+◌, Bool, true, false, cond, not, ◌&&◌, List, [], ◌∷◌, length, filter, All, ℤ, pos, ◌+ℤ◌, ◌-ℤ◌, ◌≤ℤ◌, ◌<ℤ◌, int_lt, int_le, arith}
use Rattle.std.proofs.lemmas.Int.{clamps, ints}
use Rattle.std.proofs.lemmas.List.Elements.{All-head, All-tail}
use Rattle.std.proofs.lemmas.List.Sums.{length-filter}
use Rattle.wm_modes.proofs.MapLaws.{rect_is}
use Rattle.wm_modes.specs.declared.rects.Rect.{Rect}
use Rattle.wm_modes.specs.declared.sides.Side.{Side}
use Rattle.wm_modes.specs.declared.sides.Side.TheVariants.{Top, Right, Bottom, Left}
use Rattle.wm_modes.specs.declared.sides.FlowSide.TheVariants.{LineLeft}
use Rattle.fragment_types.specs.RunUnit.{RunUnit}
use Rattle.hit_caret.specs.declared.cells.Cell.{Cell}
use Rattle.hit_caret.specs.declared.cells.Run.{Run}
use Rattle.hit_caret.specs.declared.rects.Point.{Point}
use Rattle.hit_caret.specs.Cells.{cell_of, cells_from, line_side, taken}
use Rattle.hit_caret.specs.Laws.{CellsTileRuns, FilledRunsAreTaken, end_from, whole_cells_from}
use Rattle.hit_caret.specs.Rects.{distance_from, extent_from, holds, is_within, part_from}
use Rattle.hit_caret.proofs.Tests.{is_at_most, is_below, is_false, is_true}

-- ---- parts of a rectangle side by side

-- whether the rectangle holds the point across its sides
abbrev pub is_across : Side → Rect → Point → Bool
is_across Left r p = is_within r.y r.h p.y
is_across Right r p = is_within r.y r.h p.y
is_across Top r p = is_within r.x r.w p.x
is_across Bottom r p = is_within r.x r.w p.x

-- whether fewer points than this lie between the point and the side
abbrev pub is_before : Side → Rect → Point → ℤ → Bool
is_before side r p distance = int_lt (distance_from side r p) distance

abbrev pub is_between : (across before_start before_end : Bool) → Bool
is_between across before_start before_end = across && (not before_start && before_end)

same_test : (a b : Bool) → (a ≡ true → b ≡ true) → (b ≡ true → a ≡ true) → a ≡ b
same_test true true p q = refl
same_test true false p q = sym (p refl)
same_test false true p q = q refl
same_test false false p q = refl

not_below : (a b c d : ℤ) → (a ≤ℤ b → d ≤ℤ c) → (d ≤ℤ c → a ≤ℤ b) → int_le a b ≡ not (int_lt c d)
not_below a b c d there back = by (int_lt c d) refl where
  by : (t : Bool) → int_lt c d ≡ t → int_le a b ≡ not t
  by true e = is_false (int_le a b) (λ f. let g = there (omega (arith, ints)) in omega (arith, ints))
  by false e = is_true (int_le a b) (λ f. let g = back (omega (arith, ints)) in omega (arith, ints))

below_same : (a b c d : ℤ) → (a <ℤ b → c <ℤ d) → (c <ℤ d → a <ℤ b) → int_lt a b ≡ int_lt c d
below_same a b c d there back =
    same_test (int_lt a b) (int_lt c d) (λ e. is_below c d (there (omega (arith, ints)))) (λ e. is_below a b (back (omega (arith, ints))))

at_most_below : (a b c d : ℤ) → (a ≤ℤ b → c <ℤ d) → (c <ℤ d → a ≤ℤ b) → int_le a b ≡ int_lt c d
at_most_below a b c d there back =
    same_test (int_le a b) (int_lt c d) (λ e. is_below c d (there (omega (arith, ints)))) (λ e. is_at_most a b (back (omega (arith, ints))))

below_not : (a b c d : ℤ) → (a <ℤ b → d ≤ℤ c) → (d ≤ℤ c → a <ℤ b) → int_lt a b ≡ not (int_lt c d)
below_not a b c d there back = by (int_lt c d) refl where
  by : (t : Bool) → int_lt c d ≡ t → int_lt a b ≡ not t
  by true e = is_false (int_lt a b) (λ f. let g = there (omega (arith, ints)) in omega (arith, ints))
  by false e = is_below a b (back (omega (arith, ints)))

swapped : (a b : Bool) → (a && b) ≡ (b && a)
swapped true true = refl
swapped true false = refl
swapped false true = refl
swapped false false = refl

-- a part of an axis, measured from its start and from its end
from_start : (origin start extent place : ℤ) → is_within (origin +ℤ start) extent place ≡ (not (int_lt (place -ℤ origin) start) && int_lt (place -ℤ origin) (start +ℤ extent))
from_start origin start extent place =
    let least : int_le (origin +ℤ start) place ≡ not (int_lt (place -ℤ origin) start) =
    not_below (origin +ℤ start) place (place -ℤ origin) start (λ e. omega (arith, ints)) (λ e. omega (arith, ints)) in
    let greatest : int_lt place (origin +ℤ start +ℤ extent) ≡ int_lt (place -ℤ origin) (start +ℤ extent) =
    below_same place (origin +ℤ start +ℤ extent) (place -ℤ origin) (start +ℤ extent) (λ e. omega (arith, ints)) (λ e. omega (arith, ints)) in
    rw (least, greatest) refl

from_end : (origin whole start extent place : ℤ) → is_within (origin +ℤ whole -ℤ start -ℤ extent) extent place
    ≡ (not (int_lt (origin +ℤ whole -ℤ pos 1 -ℤ place) start) && int_lt (origin +ℤ whole -ℤ pos 1 -ℤ place) (start +ℤ extent))
from_end origin whole start extent place =
    let least : int_le (origin +ℤ whole -ℤ start -ℤ extent) place ≡ int_lt (origin +ℤ whole -ℤ pos 1 -ℤ place) (start +ℤ extent) =
    at_most_below (origin +ℤ whole -ℤ start -ℤ extent) place (origin +ℤ whole -ℤ pos 1 -ℤ place) (start +ℤ extent) (λ e. omega (arith, ints)) (λ e. omega (arith, ints)) in
    let greatest : int_lt place (origin +ℤ whole -ℤ start -ℤ extent +ℤ extent) ≡ not (int_lt (origin +ℤ whole -ℤ pos 1 -ℤ place) start) =
    below_not place (origin +ℤ whole -ℤ start -ℤ extent +ℤ extent) (origin +ℤ whole -ℤ pos 1 -ℤ place) start (λ e. omega (arith, ints)) (λ e. omega (arith, ints)) in
    rw (least, greatest) (swapped (int_lt (origin +ℤ whole -ℤ pos 1 -ℤ place) (start +ℤ extent)) (not (int_lt (origin +ℤ whole -ℤ pos 1 -ℤ place) start)))

pub part_holds : (side : Side) (r : Rect) (p : Point) (start extent : ℤ)
    → holds (part_from side r start extent) p ≡ is_between (is_across side r p) (is_before side r p start) (is_before side r p (start +ℤ extent))
part_holds Left r p start extent =
    swapped (is_within (r.x +ℤ start) extent p.x) (is_within r.y r.h p.y) ∙ ap (λ (b : Bool). is_within r.y r.h p.y && b) (from_start r.x start extent p.x)
part_holds Right r p start extent =
    swapped (is_within (r.x +ℤ r.w -ℤ start -ℤ extent) extent p.x) (is_within r.y r.h p.y) ∙ ap (λ (b : Bool). is_within r.y r.h p.y && b) (from_end r.x r.w start extent p.x)
part_holds Top r p start extent = ap (λ (b : Bool). is_within r.x r.w p.x && b) (from_start r.y start extent p.y)
part_holds Bottom r p start extent = ap (λ (b : Bool). is_within r.x r.w p.x && b) (from_end r.y r.h start extent p.y)

pub whole_part : (side : Side) (r : Rect) → part_from side r (pos 0) (extent_from side r) ≡ r
whole_part Left r = rect_is _ _ _ _ r (omega (arith, ints)) refl refl refl
whole_part Right r = rect_is _ _ _ _ r (omega (arith, ints)) refl refl refl
whole_part Top r = rect_is _ _ _ _ r refl (omega (arith, ints)) refl refl
whole_part Bottom r = rect_is _ _ _ _ r refl (omega (arith, ints)) refl refl

-- ---- one of them

abbrev once : Bool → ℕ
once b = cond b 1 0

-- two parts side by side hold a point as often as both together
once_together : (across a b c : Bool) → (a ≡ true → b ≡ true) → (b ≡ true → c ≡ true) → once (is_between across a b) + once (is_between across b c) ≡ once (is_between across a c)
once_together false a b c p q = refl
once_together true true b c p q = rw (q (p refl), p refl) refl
once_together true false true c p q = rw (q refl) refl
once_together true false false true p q = refl
once_together true false false false p q = refl

never_between : (across b : Bool) → once (is_between across b b) ≡ 0
never_between true true = refl
never_between true false = refl
never_between false b = refl

abbrev AreFromZero : List RunUnit → Type 0
AreFromZero units = All (λ unit. pos 0 ≤ℤ unit.extent) units

first_from_zero : (unit : RunUnit) (units : List RunUnit) → AreFromZero (unit ∷ units) → pos 0 ≤ℤ unit.extent
first_from_zero unit units all = All-head (λ unit. pos 0 ≤ℤ unit.extent) unit units all

others_from_zero : (unit : RunUnit) (units : List RunUnit) → AreFromZero (unit ∷ units) → AreFromZero units
others_from_zero unit units all = All-tail (λ unit. pos 0 ≤ℤ unit.extent) unit units all

-- units that are not below zero lead on
leads_on : (distance : ℤ) (units : List RunUnit) → AreFromZero units → distance ≤ℤ end_from distance units
leads_on distance [] none = omega (arith, ints)
leads_on distance (unit ∷ units) all =
    let first = first_from_zero unit units all in
    let later = leads_on (distance +ℤ unit.extent) units (others_from_zero unit units all) in
    omega (arith, ints, first, later)

-- ---- units that fill their run

-- a unit takes its whole extent where that much is left
all_taken : (r : Run) (distance extent : ℤ) → pos 0 ≤ℤ extent → (distance +ℤ extent) ≤ℤ extent_from (line_side r.mode LineLeft) r.rect → taken r distance extent ≡ extent
all_taken r distance extent from left = omega (arith, ints, clamps)

taken_whole : (r : Run) (distance : ℤ) (units : List RunUnit) → AreFromZero units → end_from distance units ≡ extent_from (line_side r.mode LineLeft) r.rect
    → cells_from r distance units ≡ whole_cells_from r distance units
taken_whole r distance [] all whole = refl
taken_whole r distance (unit ∷ units) all whole =
    let first = first_from_zero unit units all in
    let later = leads_on (distance +ℤ unit.extent) units (others_from_zero unit units all) in
    let here : taken r distance unit.extent ≡ unit.extent = all_taken r distance unit.extent first (subst (λ (z : ℤ). (distance +ℤ unit.extent) ≤ℤ z) whole later) in
    ap (λ (z : ℤ). cell_of r distance z unit ∷ cells_from r (distance +ℤ z) units) here
    ∙ ap (λ (cs : List Cell). cell_of r distance unit.extent unit ∷ cs) (taken_whole r (distance +ℤ unit.extent) units (others_from_zero unit units all) whole)

pub filled_runs_are_taken : FilledRunsAreTaken
filled_runs_are_taken r units fill = taken_whole r (pos 0) units fill.extents fill.whole

module _ (r : Run) (p : Point) where
  abbrev holds_it : Cell → Bool
  holds_it c = holds c.rect p

  once_more : (c : Cell) (cs : List Cell) (b : Bool) → length (cond b (c ∷ filter holds_it cs) (filter holds_it cs)) ≡ once b + length (filter holds_it cs)
  once_more c cs true = omega arith
  once_more c cs false = omega arith

  still_before : (a b : ℤ) → a ≤ℤ b → is_before (line_side r.mode LineLeft) r.rect p a ≡ true → is_before (line_side r.mode LineLeft) r.rect p b ≡ true
  still_before a b le e = is_below (distance_from (line_side r.mode LineLeft) r.rect p) b (omega (arith, ints))

  held_once : (distance : ℤ) (units : List RunUnit) → AreFromZero units
      → length (filter holds_it (whole_cells_from r distance units))
      ≡ once (is_between (is_across (line_side r.mode LineLeft) r.rect p) (is_before (line_side r.mode LineLeft) r.rect p distance) (is_before (line_side r.mode LineLeft) r.rect p (end_from distance units)))
  held_once distance [] none = sym (never_between (is_across (line_side r.mode LineLeft) r.rect p) (is_before (line_side r.mode LineLeft) r.rect p distance))
  held_once distance (unit ∷ units) all =
      let s = line_side r.mode LineLeft in
      let next : ℤ = distance +ℤ unit.extent in
      let first = first_from_zero unit units all in
      let others = others_from_zero unit units all in
      once_more (cell_of r distance unit.extent unit) (whole_cells_from r next units) (holds (part_from s r.rect distance unit.extent) p)
      ∙ ap (λ (n : ℕ). once (holds (part_from s r.rect distance unit.extent) p) + n) (held_once next units others)
      ∙ ap (λ (b : Bool). once b + once (is_between (is_across s r.rect p) (is_before s r.rect p next) (is_before s r.rect p (end_from next units)))) (part_holds s r.rect p distance unit.extent)
      ∙ once_together (is_across s r.rect p) (is_before s r.rect p distance) (is_before s r.rect p next) (is_before s r.rect p (end_from next units))
      (still_before distance next (omega (arith, ints, first))) (still_before next (end_from next units) (leads_on next units others))

pub cells_tile_runs : CellsTileRuns
cells_tile_runs r units fill p =
    let s = line_side r.mode LineLeft in
    sym (length-filter (λ c. holds c.rect p) (cells_from r (pos 0) units))
    ∙ ap (λ (cs : List Cell). length (filter (λ c. holds c.rect p) cs)) (filled_runs_are_taken r units fill)
    ∙ held_once r p (pos 0) units fill.extents
    ∙ ap (λ (z : ℤ). once (is_between (is_across s r.rect p) (is_before s r.rect p (pos 0)) (is_before s r.rect p z))) (fill.whole ∙ sum_same (extent_from s r.rect))
    ∙ ap once (sym (part_holds s r.rect p (pos 0) (extent_from s r.rect)) ∙ ap (λ (q : Rect). holds q p) (whole_part s r.rect))
  where
    sum_same : (z : ℤ) → z ≡ pos 0 +ℤ z
    sum_same z = omega (arith, ints)
