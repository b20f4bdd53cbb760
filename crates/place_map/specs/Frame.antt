-- What fragments are measured from on the page. CSS Writing Modes 4, 6.2 and 6.4.
use Rattle.std.specs.Prelude.{Bool, true, false, ℤ, pos}
use Rattle.wm_modes.specs.Map.{map_of}
use Rattle.wm_modes.specs.Mode.{is_horizontal}
use Rattle.wm_modes.specs.declared.mode.Direction.{Direction}
use Rattle.wm_modes.specs.declared.mode.Direction.TheVariants.{Ltr}
use Rattle.wm_modes.specs.declared.mode.WritingMode.{WritingMode}
use Rattle.wm_modes.specs.declared.mode.WritingMode.TheVariants.{HorizontalTb, VerticalRl, VerticalLr, SidewaysRl, SidewaysLr}
use Rattle.wm_modes.specs.declared.rects.FlowRect.{FlowRect}
use Rattle.wm_modes.specs.declared.rects.Rect.{Rect}
use Rattle.wm_units.specs.declared.view.View.{View}
use Rattle.fragment_types.specs.Fragment.{Kind, block, line, span, run, measure}
use Rattle.place_map.specs.declared.frame.Frame.{Frame}

-- the page, whose sizes are told on the axes of a mode
abbrev pub page : (w h : ℤ) → Rect
page w h = record { x = pos 0; y = pos 0; w = w; h = h }

abbrev pub page_by : (horizontal : Bool) → View → Rect
page_by true view = page view.inline view.block
page_by false view = page view.block view.inline

abbrev pub page_of : View → WritingMode → Rect
page_of view mode = page_by (is_horizontal mode) view

-- the mode and the direction of a root: those of its box
abbrev pub root_mode : Kind → WritingMode
root_mode (block mode dir content definite start end_ through) = mode
root_mode _ = HorizontalTb

abbrev pub root_direction : Kind → Direction
root_direction (block mode dir content definite start end_ through) = dir
root_direction _ = Ltr

-- the view, in the mode and the direction of the root
abbrev pub of_view : View → (root : Kind) → Frame
of_view view root = record { mode = root_mode root; dir = root_direction root; area = page_of view (root_mode root) }

-- a rectangle of the flow on the page
abbrev pub on_page : Frame → FlowRect → Rect
on_page frame rect = map_of frame.mode frame.dir frame.area rect

-- what stands in a line is measured from line-left and line-over; in vertical-lr line-over is at the right, where blocks start in
-- vertical-rl
abbrev pub line_mode : WritingMode → WritingMode
line_mode HorizontalTb = HorizontalTb
line_mode VerticalRl = VerticalRl
line_mode VerticalLr = VerticalRl
line_mode SidewaysRl = SidewaysRl
line_mode SidewaysLr = SidewaysLr

-- what the parts of a fragment are measured from: the content area of a box, in its own mode and direction; a line
abbrev pub inside : Frame → Kind → (rect : Rect) → Frame
inside frame (block mode dir content definite start end_ through) rect =
    record { mode = mode; dir = dir; area = map_of frame.mode frame.dir rect content }
inside frame (line index base mode baseline) rect = record { mode = line_mode mode; dir = Ltr; area = rect }
inside frame span rect = frame
inside frame (run form level natural units) rect = frame
inside frame (measure min max) rect = frame
