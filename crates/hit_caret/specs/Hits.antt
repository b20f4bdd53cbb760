-- Which character stands at a point, and beside which of its edges.
use Rattle.std.specs.Prelude.{ℕ, Bool, true, false, not, filter, Option, None, option_map, pos, ◌*ℤ◌, int_lt, if◌then◌else◌}
use Rattle.std.specs.List.{last_or}
use Rattle.wm_modes.specs.declared.sides.FlowSide.TheVariants.{LineLeft}
use Rattle.place_map.specs.Placed.{Page}
use Rattle.hit_caret.specs.declared.cells.Cell.{Cell}
use Rattle.hit_caret.specs.declared.hits.Hit.{Hit}
use Rattle.hit_caret.specs.declared.rects.Point.{Point}
use Rattle.hit_caret.specs.Cells.{cells, is_even, side_of_cell}
use Rattle.hit_caret.specs.Rects.{distance_from, extent_from, holds}

-- whether a point of a cell lies in its half at line-left
abbrev pub is_left : Cell → Point → Bool
is_left c p = int_lt (pos 2 *ℤ distance_from (side_of_cell c LineLeft) c.rect p) (extent_from (side_of_cell c LineLeft) c.rect)

-- whether that half is the one at the leading edge
abbrev pub is_leading_half : (is_left is_even : Bool) → Bool
is_leading_half true even = even
is_leading_half false even = not even

-- the place before the cell's characters for a point in its leading half, else the one behind them
abbrev pub place_in : Cell → Point → ℕ
place_in c p = if is_leading_half (is_left c p) (is_even c.level) then c.first else c.end

abbrev pub hit_in : Point → Cell → Hit
hit_in p c = record { node = c.node; first = c.first; end = c.end; place = place_in c p }

-- the last cell that holds the point
abbrev pub cell_at : Page → Point → Option Cell
cell_at page p = last_or None (filter (λ c. holds c.rect p) (cells page))

abbrev pub hit : Page → Point → Option Hit
hit page p = option_map (hit_in p) (cell_at page p)
