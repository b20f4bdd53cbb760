-- Which side of the page each side of a flow is. CSS Writing Modes 4, 6.1 to 6.4.
use Rattle.std.specs.Prelude.{Bool, true, false}
use Rattle.wm_modes.specs.declared.mode.WritingMode.{WritingMode}
use Rattle.wm_modes.specs.declared.mode.WritingMode.TheVariants.{HorizontalTb, VerticalRl, VerticalLr, SidewaysRl, SidewaysLr}
use Rattle.wm_modes.specs.declared.mode.Direction.{Direction}
use Rattle.wm_modes.specs.declared.mode.Direction.TheVariants.{Ltr, Rtl}
use Rattle.wm_modes.specs.declared.sides.Side.{Side}
use Rattle.wm_modes.specs.declared.sides.Side.TheVariants.{Top, Right, Bottom, Left}
use Rattle.wm_modes.specs.declared.sides.FlowSide.{FlowSide}
use Rattle.wm_modes.specs.declared.sides.FlowSide.TheVariants.{BlockStart, BlockEnd, InlineStart, InlineEnd, LineOver, LineUnder, LineLeft, LineRight}

abbrev pub opposite : Side → Side
opposite Top = Bottom
opposite Right = Left
opposite Bottom = Top
opposite Left = Right

-- the table of the modes: where a block begins, where over a line is, where a line's left is
abbrev pub block_start : WritingMode → Side
block_start HorizontalTb = Top
block_start VerticalRl = Right
block_start VerticalLr = Left
block_start SidewaysRl = Right
block_start SidewaysLr = Left

abbrev pub line_over : WritingMode → Side
line_over HorizontalTb = Top
line_over VerticalRl = Right
line_over VerticalLr = Right
line_over SidewaysRl = Right
line_over SidewaysLr = Left

abbrev pub line_left : WritingMode → Side
line_left HorizontalTb = Left
line_left VerticalRl = Top
line_left VerticalLr = Top
line_left SidewaysRl = Top
line_left SidewaysLr = Bottom

-- a line begins at its left in ltr, at its right in rtl
abbrev pub inline_start : WritingMode → Direction → Side
inline_start mode Ltr = line_left mode
inline_start mode Rtl = opposite (line_left mode)

abbrev pub side_of : WritingMode → Direction → FlowSide → Side
side_of mode dir BlockStart = block_start mode
side_of mode dir BlockEnd = opposite (block_start mode)
side_of mode dir InlineStart = inline_start mode dir
side_of mode dir InlineEnd = opposite (inline_start mode dir)
side_of mode dir LineOver = line_over mode
side_of mode dir LineUnder = opposite (line_over mode)
side_of mode dir LineLeft = line_left mode
side_of mode dir LineRight = opposite (line_left mode)

-- the used direction of a box: ltr where upright text is set in vertical-rl or vertical-lr, else the computed one (CSS Writing Modes 4, 5.1)
abbrev pub used_direction : WritingMode → (is_upright : Bool) → (computed : Direction) → Direction
used_direction VerticalRl true computed = Ltr
used_direction VerticalLr true computed = Ltr
used_direction VerticalRl false computed = computed
used_direction VerticalLr false computed = computed
used_direction HorizontalTb is_upright computed = computed
used_direction SidewaysRl is_upright computed = computed
used_direction SidewaysLr is_upright computed = computed
