-- The cells of a page: what its units of text take of it, in the order of the listing. CSS Writing Modes 4, 6.2.
use Rattle.std.specs.Prelude.{ℕ, ◌%◌, ◌==◌, Bool, true, false, min, max, map, List, [], ◌∷◌, ◌++◌, ℤ, pos, ◌+ℤ◌, ◌-ℤ◌}
use Rattle.std.specs.Int.{int_max, int_min}
use Rattle.std.specs.List.{reduce}
use Rattle.std.specs.Option.{unwrap_or}
use Rattle.wm_modes.specs.Sides.{side_of}
use Rattle.wm_modes.specs.declared.mode.Direction.TheVariants.{Ltr}
use Rattle.wm_modes.specs.declared.mode.WritingMode.{WritingMode}
use Rattle.wm_modes.specs.declared.rects.Rect.{Rect}
use Rattle.wm_modes.specs.declared.sides.FlowSide.{FlowSide}
use Rattle.wm_modes.specs.declared.sides.FlowSide.TheVariants.{LineLeft, LineRight}
use Rattle.wm_modes.specs.declared.sides.Side.{Side}
use Rattle.fragment_types.specs.Fragment.{Kind, block, line, span, run, measure}
use Rattle.fragment_types.specs.RunUnit.{RunUnit}
use Rattle.fragment_types.specs.declared.unit_kind.UnitKind.{UnitKind}
use Rattle.fragment_types.specs.declared.unit_kind.UnitKind.TheVariants.{Along, Turned, Upright, Combined}
use Rattle.place_map.specs.Placed.{Page, Parts, none, part, mode_of}
use Rattle.hit_caret.specs.declared.cells.Cell.{Cell}
use Rattle.hit_caret.specs.declared.cells.Run.{Run}
use Rattle.hit_caret.specs.Rects.{extent_from, part_from}

-- which side of the page a side of a line is; no direction changes it
abbrev pub line_side : WritingMode → FlowSide → Side
line_side mode side = side_of mode Ltr side

-- ---- the cells of a run

-- how much of a run a unit of this extent takes, from this distance from line-left on: no more than is left there
abbrev pub taken : Run → (distance extent : ℤ) → ℤ
taken r distance extent = int_max (int_min extent (extent_from (line_side r.mode LineLeft) r.rect -ℤ distance)) (pos 0)

-- the part of its run that a unit takes
abbrev pub cell_of : Run → (distance extent : ℤ) → RunUnit → Cell
cell_of r distance extent unit = record {
  node = r.node;
  first = unit.first;
  end = unit.end;
  level = r.level;
  mode = r.mode;
  rect = part_from (line_side r.mode LineLeft) r.rect distance extent;
}

-- units one after the other
abbrev pub cells_from : Run → (distance : ℤ) → List RunUnit → List Cell
cells_from r distance [] = []
cells_from r distance (unit ∷ units) = cell_of r distance (taken r distance unit.extent) unit ∷ cells_from r (distance +ℤ taken r distance unit.extent) units

-- the least place at which a unit begins, and the greatest at which one ends; 0 where there is none
abbrev pub first_of : List RunUnit → ℕ
first_of units = unwrap_or (reduce min (map (λ unit. unit.first) units)) 0

abbrev pub end_of : List RunUnit → ℕ
end_of units = unwrap_or (reduce max (map (λ unit. unit.end) units)) 0

-- a combined run is one cell
abbrev pub combined_cell : Run → List RunUnit → Cell
combined_cell r units = record { node = r.node; first = first_of units; end = end_of units; level = r.level; mode = r.mode; rect = r.rect }

abbrev pub run_cells : UnitKind → Run → List RunUnit → List Cell
run_cells Along r units = cells_from r (pos 0) units
run_cells Turned r units = cells_from r (pos 0) units
run_cells Upright r units = cells_from r (pos 0) units
run_cells Combined r units = combined_cell r units ∷ []

-- ---- the cells of a page

-- the mode of the text in a fragment: that of its box, and of its line
abbrev pub mode_inside : WritingMode → Kind → WritingMode
mode_inside mode (block own dir content definite start end_ through) = own
mode_inside mode (line index base own baseline) = own
mode_inside mode span = mode
mode_inside mode (run form level natural units) = mode
mode_inside mode (measure min max) = mode

-- those of a fragment itself, of the text of this node, in this mode
abbrev pub own_cells : WritingMode → (node : ℕ) → Rect → Kind → List Cell
own_cells mode node rect (run form level natural units) = run_cells form (record { node = node; level = level; mode = mode; rect = rect }) units
own_cells mode node rect (block own dir content definite start end_ through) = []
own_cells mode node rect (line index base own baseline) = []
own_cells mode node rect span = []
own_cells mode node rect (measure min max) = []

-- fragments one after the other, each before those inside it
abbrev pub cells_in : WritingMode → Parts → List Cell
cells_in mode none = []
cells_in mode (part name rect kind inner next) = own_cells mode name.node rect kind ++ (cells_in (mode_inside mode kind) inner ++ cells_in mode next)

abbrev pub cells : Page → List Cell
cells page = cells_in (mode_of page) page.parts

-- ---- the edges of a cell along its line

-- the leading edge is line-left for an even level and line-right for an odd one; the trailing edge is the other
abbrev pub leading_by : (is_even : Bool) → FlowSide
leading_by true = LineLeft
leading_by false = LineRight

abbrev pub trailing_by : (is_even : Bool) → FlowSide
trailing_by true = LineRight
trailing_by false = LineLeft

abbrev pub is_even : (level : ℕ) → Bool
is_even level = level % 2 == 0

abbrev pub side_of_cell : Cell → FlowSide → Side
side_of_cell c side = line_side c.mode side

abbrev pub leading : Cell → Side
leading c = side_of_cell c (leading_by (is_even c.level))

abbrev pub trailing : Cell → Side
trailing c = side_of_cell c (trailing_by (is_even c.level))
