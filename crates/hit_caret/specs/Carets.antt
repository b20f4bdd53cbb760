-- Where the caret stands at a place of a text.
use Rattle.std.specs.Prelude.{ℕ, ◌==◌, Bool, true, false, ◌&&◌, find, Option, Some, None, option_map, option_and_then, pos, int_le}
use Rattle.std.specs.Option.{option_or}
use Rattle.wm_modes.specs.declared.rects.Rect.{Rect}
use Rattle.wm_modes.specs.declared.sides.FlowSide.TheVariants.{LineLeft, LineOver}
use Rattle.place_map.specs.Placed.{Page}
use Rattle.hit_caret.specs.declared.cells.Cell.{Cell}
use Rattle.hit_caret.specs.declared.rects.Point.{Point}
use Rattle.hit_caret.specs.Cells.{cells, leading, side_of_cell, trailing}
use Rattle.hit_caret.specs.Rects.{edge, extent_from, touching}

-- whether a cell of the text begins or ends at the place
abbrev pub begins_at : (node place : ℕ) → Cell → Bool
begins_at node place c = (c.node == node) && (c.first == place)

abbrev pub ends_at : (node place : ℕ) → Cell → Bool
ends_at node place c = (c.node == node) && (c.end == place)

abbrev pub leading_edge : Cell → Rect
leading_edge c = edge (leading c) c.rect

abbrev pub trailing_edge : Cell → Rect
trailing_edge c = edge (trailing c) c.rect

-- the first cell that was found, of those before this one and this one
abbrev pub found_first : (before : Option Cell) → (is_found : Bool) → Cell → Option Cell
found_first (Some before) is_found c = Some before
found_first None true c = Some c
found_first None false c = None

abbrev pub first_beginning : Page → (node place : ℕ) → Option Cell
first_beginning page node place = find (begins_at node place) (cells page)

abbrev pub first_ending : Page → (node place : ℕ) → Option Cell
first_ending page node place = find (ends_at node place) (cells page)

-- the leading edge of the first cell of the text that begins there, else the trailing edge of the first one that ends there
abbrev pub caret : Page → (node place : ℕ) → Option Rect
caret page node place = option_or (option_map leading_edge (first_beginning page node place)) (option_map trailing_edge (first_ending page node place))

-- ---- a point that hits it

-- the point of a cell that touches its leading edge and is nearest to line-over
abbrev pub leading_point : Cell → Point
leading_point c = touching (leading c) c.rect (touching (side_of_cell c LineOver) c.rect (record { x = c.rect.x; y = c.rect.y }))

-- whether a cell has two points along its line at least, and one across it
abbrev pub is_wide : Cell → Bool
is_wide c = int_le (pos 2) (extent_from (side_of_cell c LineLeft) c.rect) && int_le (pos 1) (extent_from (side_of_cell c LineOver) c.rect)

abbrev pub point_if : (is_wide : Bool) → Cell → Option Point
point_if true c = Some (leading_point c)
point_if false c = None

-- of a caret on a leading edge the point of its cell there
abbrev pub caret_point : Page → (node place : ℕ) → Option Point
caret_point page node place = option_and_then (λ c. point_if (is_wide c) c) (first_beginning page node place)
