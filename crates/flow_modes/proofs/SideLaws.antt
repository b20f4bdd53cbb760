-- The edges of a style on the sides of the flow are in each way those of a horizontal flow.
use Rattle.std.proofs.Common.{◌≡◌, refl}
use Rattle.wm_modes.specs.Sides.{side_of}
use Rattle.wm_modes.specs.declared.mode.Direction.{Direction}
use Rattle.wm_modes.specs.declared.mode.Direction.TheVariants.{Ltr, Rtl}
use Rattle.wm_modes.specs.declared.sides.FlowSide.{FlowSide}
use Rattle.wm_modes.specs.declared.sides.FlowSide.TheVariants.{BlockEnd, BlockStart, InlineEnd, InlineStart, LineLeft, LineOver, LineRight, LineUnder}
use Rattle.style_types.specs.declared.style.SideSizes.{SideSizes}
use Rattle.style_types.specs.declared.style.SideWidths.{SideWidths}
use Rattle.style_types.specs.declared.style.Style.{Style}
use Rattle.para_prepare.specs.Parts.{used_direction}
use Rattle.para_lines.specs.Edges.{size_on, width_on}
use Rattle.flow_modes.specs.Sides.{SidesAlike}
use Rattle.mode_ways.specs.Ways.{Way, across, down, left, right, mode_of, plain, sides_in, style_in, widths_in}

pub size_side : (way : Way) (sides : SideSizes) (dir : Direction) (side : FlowSide) → size_on (sides_in way sides) (side_of (mode_of way) dir side) ≡ size_on sides (side_of (mode_of plain) dir side)
size_side (across orientation combine) sides dir BlockStart = refl
size_side (across orientation combine) sides dir BlockEnd = refl
size_side (across orientation combine) sides dir LineOver = refl
size_side (across orientation combine) sides dir LineUnder = refl
size_side (across orientation combine) sides dir LineLeft = refl
size_side (across orientation combine) sides dir LineRight = refl
size_side (across orientation combine) sides Ltr InlineStart = refl
size_side (across orientation combine) sides Rtl InlineStart = refl
size_side (across orientation combine) sides Ltr InlineEnd = refl
size_side (across orientation combine) sides Rtl InlineEnd = refl
size_side down sides dir BlockStart = refl
size_side down sides dir BlockEnd = refl
size_side down sides dir LineOver = refl
size_side down sides dir LineUnder = refl
size_side down sides dir LineLeft = refl
size_side down sides dir LineRight = refl
size_side down sides Ltr InlineStart = refl
size_side down sides Rtl InlineStart = refl
size_side down sides Ltr InlineEnd = refl
size_side down sides Rtl InlineEnd = refl
size_side (right orientation combine) sides dir BlockStart = refl
size_side (right orientation combine) sides dir BlockEnd = refl
size_side (right orientation combine) sides dir LineOver = refl
size_side (right orientation combine) sides dir LineUnder = refl
size_side (right orientation combine) sides dir LineLeft = refl
size_side (right orientation combine) sides dir LineRight = refl
size_side (right orientation combine) sides Ltr InlineStart = refl
size_side (right orientation combine) sides Rtl InlineStart = refl
size_side (right orientation combine) sides Ltr InlineEnd = refl
size_side (right orientation combine) sides Rtl InlineEnd = refl
size_side (left orientation combine) sides dir BlockStart = refl
size_side (left orientation combine) sides dir BlockEnd = refl
size_side (left orientation combine) sides dir LineOver = refl
size_side (left orientation combine) sides dir LineUnder = refl
size_side (left orientation combine) sides dir LineLeft = refl
size_side (left orientation combine) sides dir LineRight = refl
size_side (left orientation combine) sides Ltr InlineStart = refl
size_side (left orientation combine) sides Rtl InlineStart = refl
size_side (left orientation combine) sides Ltr InlineEnd = refl
size_side (left orientation combine) sides Rtl InlineEnd = refl

pub width_side : (way : Way) (sides : SideWidths) (dir : Direction) (side : FlowSide) → width_on (widths_in way sides) (side_of (mode_of way) dir side) ≡ width_on sides (side_of (mode_of plain) dir side)
width_side (across orientation combine) sides dir BlockStart = refl
width_side (across orientation combine) sides dir BlockEnd = refl
width_side (across orientation combine) sides dir LineOver = refl
width_side (across orientation combine) sides dir LineUnder = refl
width_side (across orientation combine) sides dir LineLeft = refl
width_side (across orientation combine) sides dir LineRight = refl
width_side (across orientation combine) sides Ltr InlineStart = refl
width_side (across orientation combine) sides Rtl InlineStart = refl
width_side (across orientation combine) sides Ltr InlineEnd = refl
width_side (across orientation combine) sides Rtl InlineEnd = refl
width_side down sides dir BlockStart = refl
width_side down sides dir BlockEnd = refl
width_side down sides dir LineOver = refl
width_side down sides dir LineUnder = refl
width_side down sides dir LineLeft = refl
width_side down sides dir LineRight = refl
width_side down sides Ltr InlineStart = refl
width_side down sides Rtl InlineStart = refl
width_side down sides Ltr InlineEnd = refl
width_side down sides Rtl InlineEnd = refl
width_side (right orientation combine) sides dir BlockStart = refl
width_side (right orientation combine) sides dir BlockEnd = refl
width_side (right orientation combine) sides dir LineOver = refl
width_side (right orientation combine) sides dir LineUnder = refl
width_side (right orientation combine) sides dir LineLeft = refl
width_side (right orientation combine) sides dir LineRight = refl
width_side (right orientation combine) sides Ltr InlineStart = refl
width_side (right orientation combine) sides Rtl InlineStart = refl
width_side (right orientation combine) sides Ltr InlineEnd = refl
width_side (right orientation combine) sides Rtl InlineEnd = refl
width_side (left orientation combine) sides dir BlockStart = refl
width_side (left orientation combine) sides dir BlockEnd = refl
width_side (left orientation combine) sides dir LineOver = refl
width_side (left orientation combine) sides dir LineUnder = refl
width_side (left orientation combine) sides dir LineLeft = refl
width_side (left orientation combine) sides dir LineRight = refl
width_side (left orientation combine) sides Ltr InlineStart = refl
width_side (left orientation combine) sides Rtl InlineStart = refl
width_side (left orientation combine) sides Ltr InlineEnd = refl
width_side (left orientation combine) sides Rtl InlineEnd = refl

pub direction_same : (way : Way) (style : Style) → used_direction (style_in way style) ≡ style.direction
direction_same (across orientation combine) style = refl
direction_same down style = refl
direction_same (right orientation combine) style = refl
direction_same (left orientation combine) style = refl

pub sides_alike : SidesAlike
sides_alike = record { sizes = size_side; widths = width_side; direction = direction_same }
