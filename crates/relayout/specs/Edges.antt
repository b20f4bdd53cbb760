-- Margins, and borders with paddings, of a box on the sides of the page. CSS 2, 8.3 to 8.5. Percentages refer to the inline
-- size of the containing block; where that isn't known they count as 0.
use Rattle.std.specs.Prelude.{Option, ℤ, pos, ◌+ℤ◌, unwrap_or}
use Rattle.wm_modes.specs.declared.mode.WritingMode.{WritingMode}
use Rattle.wm_modes.specs.declared.sides.Side.{Side}
use Rattle.wm_modes.specs.Sides.{block_start, line_left, line_over, opposite}
use Rattle.size_rules.specs.Resolving.{resolved_margin, resolved_or_zero}
use Rattle.style_types.specs.declared.style.Style.{Style}
use Rattle.para_lines.specs.Edges.{size_on, width_on}

-- a margin, unless it is auto
abbrev pub margin : Style → (inline : Option ℤ) → Side → Option ℤ
margin style inline side = resolved_margin (size_on style.margin side) inline

-- auto margins count as 0
abbrev pub margin_or_zero : Style → (inline : Option ℤ) → Side → ℤ
margin_or_zero style inline side = unwrap_or (margin style inline side) (pos 0)

abbrev pub padding : Style → (inline : Option ℤ) → Side → ℤ
padding style inline side = resolved_or_zero (size_on style.padding side) inline

-- border and padding
abbrev pub inner_edge : Style → (inline : Option ℤ) → Side → ℤ
inner_edge style inline side = width_on style.border side +ℤ padding style inline side

-- on a side and the one opposite to it together: along the lines of a mode from its line-left, across them from its block-start
abbrev pub both : (Side → ℤ) → Side → ℤ
both length side = length side +ℤ length (opposite side)

abbrev pub inner_edges_along : Style → (inline : Option ℤ) → WritingMode → ℤ
inner_edges_along style inline mode = both (inner_edge style inline) (line_left mode)

abbrev pub inner_edges_across : Style → (inline : Option ℤ) → WritingMode → ℤ
inner_edges_across style inline mode = both (inner_edge style inline) (block_start mode)

abbrev pub margins_along : Style → (inline : Option ℤ) → WritingMode → ℤ
margins_along style inline mode = both (margin_or_zero style inline) (line_left mode)

-- those over and under a line
abbrev pub margins_over : Style → (inline : Option ℤ) → WritingMode → ℤ
margins_over style inline mode = both (margin_or_zero style inline) (line_over mode)
