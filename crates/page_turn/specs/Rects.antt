-- Rectangles of the flow's page on the page of another mode. CSS Writing Modes 4, 6.2 and 6.4.
use Rattle.std.specs.Prelude.{◌≡◌, ℤ, if◌then◌else◌}
use Rattle.wm_modes.specs.Map.{from_other_end}
use Rattle.wm_modes.specs.Mode.{is_horizontal}
use Rattle.wm_modes.specs.Sides.{block_start, line_left, line_over}
use Rattle.wm_modes.specs.declared.mode.WritingMode.{WritingMode}
use Rattle.wm_modes.specs.declared.rects.Rect.{Rect}
use Rattle.wm_modes.specs.declared.sides.Side.{Side}
use Rattle.wm_modes.specs.declared.sides.Side.TheVariants.{Top, Right, Bottom, Left}
use Rattle.wm_units.specs.declared.view.View.{View}

-- the modes to which a page can be turned: over its lines is where its blocks begin, as in horizontal-tb. All but vertical-lr
abbrev pub IsTurning : WritingMode → Type 0
IsTurning mode = line_over mode ≡ block_start mode

-- the distance from the top or the left of the page of what stands this far from one of its sides
abbrev pub from_side : Side → (whole start extent : ℤ) → ℤ
from_side Top whole start extent = start
from_side Left whole start extent = start
from_side Right whole start extent = from_other_end whole start extent
from_side Bottom whole start extent = from_other_end whole start extent

-- a rectangle stands as far from line-left and from block-start of the view as on the flow's page, where these are the left and the top
abbrev pub rect_turned : WritingMode → View → Rect → Rect
rect_turned mode view rect =
    let along = from_side (line_left mode) view.inline rect.x rect.w in
    let across = from_side (block_start mode) view.block rect.y rect.h in
    if is_horizontal mode then record { x = along; y = across; w = rect.w; h = rect.h } else record { x = across; y = along; w = rect.h; h = rect.w }
