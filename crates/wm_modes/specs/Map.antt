-- Where a rectangle of a flow stands on the page, and where a rectangle of the page stands in the flow.
-- CSS Writing Modes 4, 6.4.
use Rattle.std.specs.Prelude.{ℤ, ◌+ℤ◌, ◌-ℤ◌}
use Rattle.wm_modes.specs.declared.mode.WritingMode.{WritingMode}
use Rattle.wm_modes.specs.declared.mode.WritingMode.TheVariants.{HorizontalTb, VerticalRl, VerticalLr, SidewaysRl, SidewaysLr}
use Rattle.wm_modes.specs.declared.mode.Direction.{Direction}
use Rattle.wm_modes.specs.declared.mode.Direction.TheVariants.{Ltr, Rtl}
use Rattle.wm_modes.specs.declared.rects.FlowRect.{FlowRect}
use Rattle.wm_modes.specs.declared.rects.Rect.{Rect}

-- the distance of a piece from the other end of a whole
abbrev pub from_other_end : (whole start extent : ℤ) → ℤ
from_other_end whole start extent = whole -ℤ start -ℤ extent

-- the distance from line-left of a piece that begins at this distance from inline-start; and back again
abbrev pub along_line : Direction → (whole start extent : ℤ) → ℤ
along_line Ltr whole start extent = start
along_line Rtl whole start extent = from_other_end whole start extent

-- the page's rectangle of the flow rectangle r in a content area, a row for each mode
abbrev pub map_of : WritingMode → Direction → (area : Rect) → FlowRect → Rect
map_of HorizontalTb dir area r = record { x = area.x +ℤ along_line dir area.w r.i r.inline; y = area.y +ℤ r.b; w = r.inline; h = r.block }
map_of VerticalRl dir area r = record { x = area.x +ℤ from_other_end area.w r.b r.block; y = area.y +ℤ along_line dir area.h r.i r.inline; w = r.block; h = r.inline }
map_of VerticalLr dir area r = record { x = area.x +ℤ r.b; y = area.y +ℤ along_line dir area.h r.i r.inline; w = r.block; h = r.inline }
map_of SidewaysRl dir area r = record { x = area.x +ℤ from_other_end area.w r.b r.block; y = area.y +ℤ along_line dir area.h r.i r.inline; w = r.block; h = r.inline }
map_of SidewaysLr dir area r = record { x = area.x +ℤ r.b; y = area.y +ℤ from_other_end area.h (along_line dir area.h r.i r.inline) r.inline; w = r.block; h = r.inline }

-- the flow rectangle of the page's rectangle q in a content area, a row for each mode
abbrev pub unmap_of : WritingMode → Direction → (area : Rect) → Rect → FlowRect
unmap_of HorizontalTb dir area q = record { i = along_line dir area.w (q.x -ℤ area.x) q.w; b = q.y -ℤ area.y; inline = q.w; block = q.h }
unmap_of VerticalRl dir area q = record { i = along_line dir area.h (q.y -ℤ area.y) q.h; b = from_other_end area.w (q.x -ℤ area.x) q.w; inline = q.h; block = q.w }
unmap_of VerticalLr dir area q = record { i = along_line dir area.h (q.y -ℤ area.y) q.h; b = q.x -ℤ area.x; inline = q.h; block = q.w }
unmap_of SidewaysRl dir area q = record { i = along_line dir area.h (q.y -ℤ area.y) q.h; b = from_other_end area.w (q.x -ℤ area.x) q.w; inline = q.h; block = q.w }
unmap_of SidewaysLr dir area q = record { i = along_line dir area.h (from_other_end area.h (q.y -ℤ area.y) q.h) q.h; b = q.x -ℤ area.x; inline = q.h; block = q.w }

-- the rectangle, measured from where the rectangle of its containing block is measured from: of one mode, places add up
abbrev pub inside : (containing : FlowRect) → FlowRect → FlowRect
inside containing r = record { i = containing.i +ℤ r.i; b = containing.b +ℤ r.b; inline = r.inline; block = r.block }
