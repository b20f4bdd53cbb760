-- What holds of turned pages.
use Rattle.std.specs.Prelude.{◌≡◌, ⊤, ℤ, pos, neg_ℤ, ◌+ℤ◌, ◌-ℤ◌, ◌≤ℤ◌, ◌<ℤ◌, if◌then◌else◌}
use Rattle.wm_modes.specs.Mode.{is_horizontal}
use Rattle.wm_modes.specs.Sides.{block_start, line_left}
use Rattle.wm_modes.specs.declared.mode.WritingMode.{WritingMode}
use Rattle.wm_modes.specs.declared.mode.WritingMode.TheVariants.{HorizontalTb, VerticalRl, SidewaysRl, SidewaysLr}
use Rattle.wm_modes.specs.declared.rects.Rect.{Rect}
use Rattle.wm_modes.specs.declared.sides.Side.{Side}
use Rattle.wm_modes.specs.declared.sides.Side.TheVariants.{Top, Right, Bottom, Left}
use Rattle.wm_units.specs.declared.view.View.{View}
use Rattle.fragment_types.specs.Fragment.{Kind, block, line, span, run, measure, Pieces, none, piece}
use Rattle.place_map.specs.Placing.{place}
use Rattle.page_turn.specs.Kinds.{pieces_in}
use Rattle.page_turn.specs.Rects.{IsTurning, from_side, rect_turned}
use Rattle.page_turn.specs.Turning.{turned}

-- ---- the page in each mode

abbrev pub IsBox : Kind → Type 0
IsBox (block mode dir content definite start end_ through) = ⊤
IsBox (line index base mode baseline) = ⊥
IsBox span = ⊥
IsBox (run form level natural units) = ⊥
IsBox (measure min max) = ⊥

-- a tree of fragments whose root is a box
abbrev pub IsRooted : Pieces → Type 0
IsRooted none = ⊥
IsRooted (piece name rect kind inner next) = IsBox kind

-- a tree of fragments that is placed in a mode is the page of its flow, turned to that mode
abbrev pub ArePlaced : Type 0
ArePlaced = (mode : WritingMode) (view : View) (pieces : Pieces) → IsTurning mode → IsRooted pieces
    → place view (pieces_in mode pieces) ≡ turned mode (place view (pieces_in HorizontalTb pieces))

-- ---- the table

-- rectangles by the modes: what it is that stands so far from line-left and from block-start
pub record StandByTable : Type 0 where
  pub horizontal_tb : (view : View) (r : Rect) → rect_turned HorizontalTb view r ≡ r
  pub vertical_rl : (view : View) (r : Rect) → rect_turned VerticalRl view r ≡ record { x = view.block -ℤ r.y -ℤ r.h; y = r.x; w = r.h; h = r.w }
  pub sideways_rl : (view : View) (r : Rect) → rect_turned SidewaysRl view r ≡ record { x = view.block -ℤ r.y -ℤ r.h; y = r.x; w = r.h; h = r.w }
  pub sideways_lr : (view : View) (r : Rect) → rect_turned SidewaysLr view r ≡ record { x = r.y; y = view.inline -ℤ r.x -ℤ r.w; w = r.h; h = r.w }

-- ---- back again

-- the rectangle of the flow's page that stands as far from the left and the top as this one from line-left and from block-start
abbrev pub rect_back : WritingMode → View → Rect → Rect
rect_back mode view q =
    if is_horizontal mode
    then record { x = from_side (line_left mode) view.inline q.x q.w; y = from_side (block_start mode) view.block q.y q.h; w = q.w; h = q.h }
    else record { x = from_side (line_left mode) view.inline q.y q.h; y = from_side (block_start mode) view.block q.x q.w; w = q.h; h = q.w }

pub record AreInverse : Type 0 where
  pub back : (mode : WritingMode) (view : View) (r : Rect) → rect_back mode view (rect_turned mode view r) ≡ r
  pub forth : (mode : WritingMode) (view : View) (q : Rect) → rect_turned mode view (rect_back mode view q) ≡ q

-- ---- points

-- along an axis: from its start on, and up to its end, which is no more of it
pub record IsWithin (start extent place : ℤ) : Type 0 where
  pub low : start ≤ℤ place
  pub high : place <ℤ (start +ℤ extent)

-- the left and the top edge belong to a rectangle, the right and the bottom edge don't
pub record Holds (r : Rect) (x y : ℤ) : Type 0 where
  pub across : IsWithin r.x r.w x
  pub down : IsWithin r.y r.h y

-- a point is the rectangle of one unit on each axis that begins there
abbrev pub point : (x y : ℤ) → Rect
point x y = record { x = x; y = y; w = pos 1; h = pos 1 }

-- a turned rectangle holds the points that the rectangle holds, turned, and no others
pub record PointsStay : Type 0 where
  pub turned : (mode : WritingMode) (view : View) (r : Rect) (x y : ℤ) → Holds r x y
      → let p = rect_turned mode view (point x y) in Holds (rect_turned mode view r) p.x p.y
  pub back : (mode : WritingMode) (view : View) (r : Rect) (x y : ℤ) → Holds (rect_turned mode view r) x y
      → let p = rect_back mode view (point x y) in Holds r p.x p.y

-- rectangles overlap where both hold a point
abbrev pub Overlap : (q r : Rect) → Type 0
Overlap q r = (x : ℤ) × (y : ℤ) × Holds q x y × Holds r x y

-- they overlap where the turned ones do, and nowhere else
pub record OverlapsStay : Type 0 where
  pub turned : (mode : WritingMode) (view : View) (q r : Rect) → Overlap q r → Overlap (rect_turned mode view q) (rect_turned mode view r)
  pub back : (mode : WritingMode) (view : View) (q r : Rect) → Overlap (rect_turned mode view q) (rect_turned mode view r) → Overlap q r

-- ---- distances

-- the two edges of a rectangle on an axis, as they are met from a side on
pub data Edge : Type 0 where
  near : Edge
  far : Edge

-- how far on an edge is, on the way from that side of the page to the opposite one
abbrev pub edge_from : Side → Edge → Rect → ℤ
edge_from Top near r = r.y
edge_from Top far r = r.y +ℤ r.h
edge_from Left near r = r.x
edge_from Left far r = r.x +ℤ r.w
edge_from Bottom near r = neg_ℤ (r.y +ℤ r.h)
edge_from Bottom far r = neg_ℤ r.y
edge_from Right near r = neg_ℤ (r.x +ℤ r.w)
edge_from Right far r = neg_ℤ r.x

abbrev pub between : Side → (one other : Edge) → (q r : Rect) → ℤ
between side one other q r = edge_from side other r -ℤ edge_from side one q

-- edges have the same distance from one another: along the line, which is from the left on in horizontal-tb; and from where blocks begin on
pub record DistancesStay : Type 0 where
  pub along : (mode : WritingMode) (view : View) (one other : Edge) (q r : Rect)
      → between (line_left mode) one other (rect_turned mode view q) (rect_turned mode view r) ≡ between Left one other q r
  pub across : (mode : WritingMode) (view : View) (one other : Edge) (q r : Rect)
      → between (block_start mode) one other (rect_turned mode view q) (rect_turned mode view r) ≡ between Top one other q r
