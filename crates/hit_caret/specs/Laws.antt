-- What holds of the cells, the hits and the carets of every page.
use Rattle.std.specs.Prelude.{◌≡◌, ◌⊎◌, ℕ, true, false, cond, List, [], ◌∷◌, ◌++◌, count_by, find, fold, Contains, All, Some, None, ℤ, pos, ◌+ℤ◌, ◌≤ℤ◌, ◌<ℤ◌, int_div}
use Rattle.wm_modes.specs.declared.rects.Rect.{Rect}
use Rattle.wm_modes.specs.declared.sides.FlowSide.TheVariants.{LineLeft}
use Rattle.fragment_types.specs.RunUnit.{RunUnit}
use Rattle.place_map.specs.Placed.{Page}
use Rattle.hit_caret.specs.declared.cells.Cell.{Cell}
use Rattle.hit_caret.specs.declared.cells.Run.{Run}
use Rattle.hit_caret.specs.declared.hits.Hit.{Hit}
use Rattle.hit_caret.specs.declared.rects.Point.{Point}
use Rattle.hit_caret.specs.Carets.{begins_at, caret, caret_point, leading_edge, trailing_edge}
use Rattle.hit_caret.specs.Cells.{cell_of, cells, cells_from, line_side}
use Rattle.hit_caret.specs.Hits.{hit, hit_in}
use Rattle.hit_caret.specs.Rects.{extent_from, holds}

abbrev pub NoneHolds : Point → List Cell → Type 0
NoneHolds p cs = All (λ c. holds c.rect p ≡ false) cs

-- ---- hits

-- a hit is of a cell of the page that holds the point; no later one does
pub record IsHitOf (page : Page) (p : Point) (h : Hit) : Type 0 where
  pub earlier : List Cell
  pub cell : Cell
  pub later : List Cell
  pub here : cells page ≡ earlier ++ cell ∷ later
  pub held : holds cell.rect p ≡ true
  pub last : NoneHolds p later
  pub is : h ≡ hit_in p cell

abbrev pub HitsAreHeld : Type 0
HitsAreHeld = (page : Page) (p : Point) (h : Hit) → hit page p ≡ Some h → IsHitOf page p h

-- the hit of a point that a cell holds is of that cell or a later one
pub record HitsFrom (page : Page) (p : Point) (cs : List Cell) : Type 0 where
  pub cell : Cell
  pub among : Contains cs cell
  pub is : hit page p ≡ Some (hit_in p cell)

abbrev pub HeldPointsAreHit : Type 0
HeldPointsAreHit = (page : Page) (p : Point) (earlier later : List Cell) (c : Cell) → cells page ≡ earlier ++ c ∷ later → holds c.rect p ≡ true → HitsFrom page p (c ∷ later)

-- as the point in the middle of a cell that isn't empty does
abbrev pub middle : Rect → Point
middle r = record { x = r.x +ℤ int_div r.w (pos 2); y = r.y +ℤ int_div r.h (pos 2) }

abbrev pub MiddlesAreHit : Type 0
MiddlesAreHit = (page : Page) (earlier later : List Cell) (c : Cell) → cells page ≡ earlier ++ c ∷ later → pos 0 <ℤ c.rect.w → pos 0 <ℤ c.rect.h
    → HitsFrom page (middle c.rect) (c ∷ later)

-- ---- cells

-- the extents of units one after the other, from this distance on
abbrev pub end_from : (distance : ℤ) → List RunUnit → ℤ
end_from = fold (λ sum unit. sum +ℤ unit.extent)

-- no unit is below zero, and together they are as long as their run
pub record FillTheirRun (r : Run) (units : List RunUnit) : Type 0 where
  pub extents : All (λ unit. pos 0 ≤ℤ unit.extent) units
  pub whole : end_from (pos 0) units ≡ extent_from (line_side r.mode LineLeft) r.rect

-- then each point of the run lies in one of its cells, and no other point in any
abbrev pub CellsTileRuns : Type 0
CellsTileRuns = (r : Run) (units : List RunUnit) → FillTheirRun r units → (p : Point)
    → count_by (λ c. holds c.rect p) (cells_from r (pos 0) units) ≡ cond (holds r.rect p) 1 0

-- units one after the other, each with its whole extent
abbrev pub whole_cells_from : Run → (distance : ℤ) → List RunUnit → List Cell
whole_cells_from r distance [] = []
whole_cells_from r distance (unit ∷ units) = cell_of r distance unit.extent unit ∷ whole_cells_from r (distance +ℤ unit.extent) units

-- and each unit takes its whole extent
abbrev pub FilledRunsAreTaken : Type 0
FilledRunsAreTaken = (r : Run) (units : List RunUnit) → FillTheirRun r units → cells_from r (pos 0) units ≡ whole_cells_from r (pos 0) units

-- ---- carets

-- a caret is an edge of a cell of its text: the leading one of a cell that begins at the place, or the trailing one of a cell that ends there
pub record IsEdgeOf (page : Page) (node place : ℕ) (edge : Rect) : Type 0 where
  pub cell : Cell
  pub among : Contains (cells page) cell
  pub of_text : cell.node ≡ node
  pub at : ((edge ≡ leading_edge cell) × (cell.first ≡ place)) ⊎ ((edge ≡ trailing_edge cell) × (cell.end ≡ place))

abbrev pub CaretsStandOnEdges : Type 0
CaretsStandOnEdges = (page : Page) (node place : ℕ) (edge : Rect) → caret page node place ≡ Some edge → IsEdgeOf page node place edge

-- where a caret has a point that no later cell holds, the hit of the point is of the caret's cell, with the caret's place
abbrev pub CaretPointsHit : Type 0
CaretPointsHit = (page : Page) (node place : ℕ) (p : Point) (earlier later : List Cell) (c : Cell) → caret_point page node place ≡ Some p
    → cells page ≡ earlier ++ c ∷ later → find (begins_at node place) earlier ≡ None → begins_at node place c ≡ true → NoneHolds p later
    → hit page p ≡ Some (record { node = node; first = place; end = c.end; place = place })
