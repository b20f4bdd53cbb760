-- The edges of a style on the sides of the flow, in each way. CSS Writing Modes 4, 6.4.
use Rattle.std.specs.Prelude.{◌≡◌}
use Rattle.wm_modes.specs.Sides.{side_of}
use Rattle.wm_modes.specs.declared.mode.Direction.{Direction}
use Rattle.wm_modes.specs.declared.sides.FlowSide.{FlowSide}
use Rattle.style_types.specs.declared.style.SideSizes.{SideSizes}
use Rattle.style_types.specs.declared.style.SideWidths.{SideWidths}
use Rattle.style_types.specs.declared.style.Style.{Style}
use Rattle.para_prepare.specs.Parts.{used_direction}
use Rattle.para_lines.specs.Edges.{size_on, width_on}
use Rattle.mode_ways.specs.Ways.{Way, mode_of, plain, sides_in, style_in, widths_in}

-- on each side of the flow there is in every way what is there in a horizontal flow, and the used direction is the computed one
pub record SidesAlike : Type 0 where
  pub sizes : (way : Way) (sides : SideSizes) (dir : Direction) (side : FlowSide) → size_on (sides_in way sides) (side_of (mode_of way) dir side) ≡ size_on sides (side_of (mode_of plain) dir side)
  pub widths : (way : Way) (sides : SideWidths) (dir : Direction) (side : FlowSide) → width_on (widths_in way sides) (side_of (mode_of way) dir side) ≡ width_on sides (side_of (mode_of plain) dir side)
  pub direction : (way : Way) (style : Style) → used_direction (style_in way style) ≡ style.direction
