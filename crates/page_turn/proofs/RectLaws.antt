-- The laws of turned rectangles, mode by mode.
use Rattle.std.proofs.Common.{◌≡◌, ℤ, pos, ◌-ℤ◌, arith}
use Rattle.std.proofs.lemmas.Int.{ints}
use Rattle.wm_modes.specs.Sides.{block_start, line_left}
use Rattle.wm_modes.specs.declared.mode.WritingMode.{WritingMode}
use Rattle.wm_modes.specs.declared.mode.WritingMode.TheVariants.{HorizontalTb, VerticalRl, VerticalLr, SidewaysRl, SidewaysLr}
use Rattle.wm_modes.specs.declared.rects.Rect.{Rect}
use Rattle.wm_modes.specs.declared.sides.Side.{Side}
use Rattle.wm_modes.specs.declared.sides.Side.TheVariants.{Top, Right, Bottom, Left}
use Rattle.wm_modes.proofs.MapLaws.{rect_is}
use Rattle.wm_units.specs.declared.view.View.{View}
use Rattle.page_turn.specs.Laws.{AreInverse, DistancesStay, Edge, Holds, IsWithin, Overlap, OverlapsStay, PointsStay, between, edge_from, far, near, point, rect_back}
use Rattle.page_turn.specs.Rects.{rect_turned}

-- ---- back again

back : (mode : WritingMode) (view : View) (r : Rect) → rect_back mode view (rect_turned mode view r) ≡ r
back HorizontalTb view r = rect_is _ _ _ _ r (omega (arith, ints)) (omega (arith, ints)) (omega (arith, ints)) (omega (arith, ints))
back VerticalRl view r = rect_is _ _ _ _ r (omega (arith, ints)) (omega (arith, ints)) (omega (arith, ints)) (omega (arith, ints))
back VerticalLr view r = rect_is _ _ _ _ r (omega (arith, ints)) (omega (arith, ints)) (omega (arith, ints)) (omega (arith, ints))
back SidewaysRl view r = rect_is _ _ _ _ r (omega (arith, ints)) (omega (arith, ints)) (omega (arith, ints)) (omega (arith, ints))
back SidewaysLr view r = rect_is _ _ _ _ r (omega (arith, ints)) (omega (arith, ints)) (omega (arith, ints)) (omega (arith, ints))

forth : (mode : WritingMode) (view : View) (q : Rect) → rect_turned mode view (rect_back mode view q) ≡ q
forth HorizontalTb view q = rect_is _ _ _ _ q (omega (arith, ints)) (omega (arith, ints)) (omega (arith, ints)) (omega (arith, ints))
forth VerticalRl view q = rect_is _ _ _ _ q (omega (arith, ints)) (omega (arith, ints)) (omega (arith, ints)) (omega (arith, ints))
forth VerticalLr view q = rect_is _ _ _ _ q (omega (arith, ints)) (omega (arith, ints)) (omega (arith, ints)) (omega (arith, ints))
forth SidewaysRl view q = rect_is _ _ _ _ q (omega (arith, ints)) (omega (arith, ints)) (omega (arith, ints)) (omega (arith, ints))
forth SidewaysLr view q = rect_is _ _ _ _ q (omega (arith, ints)) (omega (arith, ints)) (omega (arith, ints)) (omega (arith, ints))

pub are_inverse : AreInverse
are_inverse = record { back = back; forth = forth }

-- ---- points

-- a place on an axis that is counted from its other end
from_end : (whole start extent place : ℤ) → IsWithin start extent place → IsWithin (whole -ℤ start -ℤ extent) extent (whole -ℤ place -ℤ pos 1)
from_end whole start extent place is = record { low = omega (arith, ints, is.low, is.high); high = omega (arith, ints, is.low, is.high) }

of_end : (whole start extent place : ℤ) → IsWithin (whole -ℤ start -ℤ extent) extent place → IsWithin start extent (whole -ℤ place -ℤ pos 1)
of_end whole start extent place is = record { low = omega (arith, ints, is.low, is.high); high = omega (arith, ints, is.low, is.high) }

holds_turned : (mode : WritingMode) (view : View) (r : Rect) (x y : ℤ) → Holds r x y → let p = rect_turned mode view (point x y) in Holds (rect_turned mode view r) p.x p.y
holds_turned HorizontalTb view r x y is = is
holds_turned VerticalRl view r x y is = record { across = from_end view.block r.y r.h y is.down; down = is.across }
holds_turned VerticalLr view r x y is = record { across = is.down; down = is.across }
holds_turned SidewaysRl view r x y is = record { across = from_end view.block r.y r.h y is.down; down = is.across }
holds_turned SidewaysLr view r x y is = record { across = is.down; down = from_end view.inline r.x r.w x is.across }

holds_back : (mode : WritingMode) (view : View) (r : Rect) (x y : ℤ) → Holds (rect_turned mode view r) x y → let p = rect_back mode view (point x y) in Holds r p.x p.y
holds_back HorizontalTb view r x y is = is
holds_back VerticalRl view r x y is = record { across = is.down; down = of_end view.block r.y r.h x is.across }
holds_back VerticalLr view r x y is = record { across = is.down; down = is.across }
holds_back SidewaysRl view r x y is = record { across = is.down; down = of_end view.block r.y r.h x is.across }
holds_back SidewaysLr view r x y is = record { across = of_end view.inline r.x r.w y is.down; down = is.across }

pub points_stay : PointsStay
points_stay = record { turned = holds_turned; back = holds_back }

-- ---- overlaps

overlap_turned : (mode : WritingMode) (view : View) (q r : Rect) → Overlap q r → Overlap (rect_turned mode view q) (rect_turned mode view r)
overlap_turned mode view q r (x, y, one, other) =
    let p = rect_turned mode view (point x y) in (p.x, p.y, holds_turned mode view q x y one, holds_turned mode view r x y other)

overlap_back : (mode : WritingMode) (view : View) (q r : Rect) → Overlap (rect_turned mode view q) (rect_turned mode view r) → Overlap q r
overlap_back mode view q r (x, y, one, other) =
    let p = rect_back mode view (point x y) in (p.x, p.y, holds_back mode view q x y one, holds_back mode view r x y other)

pub overlaps_stay : OverlapsStay
overlaps_stay = record { turned = overlap_turned; back = overlap_back }

-- ---- distances

-- what is counted back from a side: all of the page, where that is the right or the bottom
abbrev all_from : Side → (whole : ℤ) → ℤ
all_from Top whole = pos 0
all_from Left whole = pos 0
all_from Right whole = whole
all_from Bottom whole = whole

edge_along : (mode : WritingMode) (view : View) (edge : Edge) (r : Rect)
    → edge_from (line_left mode) edge (rect_turned mode view r) ≡ edge_from Left edge r -ℤ all_from (line_left mode) view.inline
edge_along HorizontalTb view near r = omega (arith, ints)
edge_along HorizontalTb view far r = omega (arith, ints)
edge_along VerticalRl view near r = omega (arith, ints)
edge_along VerticalRl view far r = omega (arith, ints)
edge_along VerticalLr view near r = omega (arith, ints)
edge_along VerticalLr view far r = omega (arith, ints)
edge_along SidewaysRl view near r = omega (arith, ints)
edge_along SidewaysRl view far r = omega (arith, ints)
edge_along SidewaysLr view near r = omega (arith, ints)
edge_along SidewaysLr view far r = omega (arith, ints)

edge_across : (mode : WritingMode) (view : View) (edge : Edge) (r : Rect)
    → edge_from (block_start mode) edge (rect_turned mode view r) ≡ edge_from Top edge r -ℤ all_from (block_start mode) view.block
edge_across HorizontalTb view near r = omega (arith, ints)
edge_across HorizontalTb view far r = omega (arith, ints)
edge_across VerticalRl view near r = omega (arith, ints)
edge_across VerticalRl view far r = omega (arith, ints)
edge_across VerticalLr view near r = omega (arith, ints)
edge_across VerticalLr view far r = omega (arith, ints)
edge_across SidewaysRl view near r = omega (arith, ints)
edge_across SidewaysRl view far r = omega (arith, ints)
edge_across SidewaysLr view near r = omega (arith, ints)
edge_across SidewaysLr view far r = omega (arith, ints)

-- what is counted back of both makes no difference
difference : (a b c p q : ℤ) → p ≡ a -ℤ c → q ≡ b -ℤ c → q -ℤ p ≡ b -ℤ a
difference a b c p q is also = omega (arith, ints, is, also)

along_same : (mode : WritingMode) (view : View) (one other : Edge) (q r : Rect)
    → between (line_left mode) one other (rect_turned mode view q) (rect_turned mode view r) ≡ between Left one other q r
along_same mode view one other q r =
    difference (edge_from Left one q) (edge_from Left other r) (all_from (line_left mode) view.inline) (edge_from (line_left mode) one (rect_turned mode view q))
    (edge_from (line_left mode) other (rect_turned mode view r)) (edge_along mode view one q) (edge_along mode view other r)

across_same : (mode : WritingMode) (view : View) (one other : Edge) (q r : Rect)
    → between (block_start mode) one other (rect_turned mode view q) (rect_turned mode view r) ≡ between Top one other q r
across_same mode view one other q r =
    difference (edge_from Top one q) (edge_from Top other r) (all_from (block_start mode) view.block) (edge_from (block_start mode) one (rect_turned mode view q))
    (edge_from (block_start mode) other (rect_turned mode view r)) (edge_across mode view one q) (edge_across mode view other r)

pub distances_stay : DistancesStay
distances_stay = record { along = along_same; across = across_same }
