-- Margins, borders and paddings of inline boxes, and how far they are raised (CSS 2, 8.3 to 8.5 and 10.8.1).
use Rattle.std.specs.Prelude.{ℕ, List, [], ◌∷◌, Option, Some, None, ℤ, pos, ◌+ℤ◌}
use Rattle.wm_units.specs.Numbers.{cap, percent}
use Rattle.wm_modes.specs.Sides.{side_of}
use Rattle.wm_modes.specs.declared.sides.FlowSide.{FlowSide}
use Rattle.wm_modes.specs.declared.sides.Side.{Side}
use Rattle.wm_modes.specs.declared.sides.Side.TheVariants.{Top, Right, Bottom, Left}
use Rattle.style_types.specs.declared.style.SideSizes.{SideSizes}
use Rattle.style_types.specs.declared.style.SideWidths.{SideWidths}
use Rattle.style_types.specs.declared.style.Size.{Size}
use Rattle.style_types.specs.declared.style.Size.TheVariants.{Auto, Length, Percent}
use Rattle.style_types.specs.declared.style.Style.{Style}
use Rattle.fragment_types.specs.Item.{Entry}
use Rattle.para_prepare.specs.Parts.{used_direction}
use Rattle.para_lines.specs.Around.{box_at}

-- a percentage of the containing block's inline size; nothing of a size that isn't known
abbrev pub share : (hundredths : ℤ) → (inline : Option ℤ) → ℤ
share hundredths None = pos 0
share hundredths (Some inline) = cap (percent hundredths inline)

-- a margin or a padding of an inline box; `auto` is 0
abbrev pub resolved : (inline : Option ℤ) → Size → ℤ
resolved inline Auto = pos 0
resolved inline (Length length) = length
resolved inline (Percent hundredths) = share hundredths inline

abbrev pub size_on : SideSizes → Side → Size
size_on sides Top = sides.top
size_on sides Right = sides.right
size_on sides Bottom = sides.bottom
size_on sides Left = sides.left

abbrev pub width_on : SideWidths → Side → ℤ
width_on sides Top = sides.top
width_on sides Right = sides.right
width_on sides Bottom = sides.bottom
width_on sides Left = sides.left

abbrev pub margin_on : (inline : Option ℤ) → Style → Side → ℤ
margin_on inline style side = resolved inline (size_on style.margin side)

-- border and padding
abbrev pub inner_edge_on : (inline : Option ℤ) → Style → Side → ℤ
inner_edge_on inline style side = width_on style.border side +ℤ resolved inline (size_on style.padding side)

-- the whole edge of an inline box at its inline-start or its inline-end
abbrev pub inline_edge : (inline : Option ℤ) → Style → FlowSide → ℤ
inline_edge inline style side =
    margin_on inline style (side_of style.mode (used_direction style) side) +ℤ inner_edge_on inline style (side_of style.mode (used_direction style) side)

-- the lengths of `vertical-align` of boxes together
abbrev pub shifts : List Entry → List ℕ → ℤ
shifts entries [] = pos 0
shifts entries (box ∷ chain) = (box_at entries box).style.shift +ℤ shifts entries chain

-- how far what has this length of its own is raised inside these boxes
abbrev pub raised_in : List Entry → (shift : ℤ) → (chain : List ℕ) → ℤ
raised_in entries shift chain = cap (shift +ℤ shifts entries chain)
