-- How far its insets shift a relatively positioned box. CSS Positioned Layout 3, 3.1 to 3.4; CSS 2, 9.4.3.
use Rattle.std.specs.Prelude.{ℤ, pos, neg_ℤ, ◌+ℤ◌, if◌then◌else◌, Option, Some, None}
use Rattle.wm_modes.specs.Mode.{is_horizontal}
use Rattle.wm_modes.specs.Sides.{side_of}
use Rattle.wm_modes.specs.declared.sides.FlowSide.{FlowSide}
use Rattle.wm_modes.specs.declared.sides.FlowSide.TheVariants.{BlockStart, BlockEnd, InlineStart, InlineEnd}
use Rattle.wm_modes.specs.declared.sides.Side.{Side}
use Rattle.wm_modes.specs.declared.sides.Side.TheVariants.{Top, Right, Bottom, Left}
use Rattle.style_types.specs.declared.style.Size.{Size}
use Rattle.size_rules.specs.Resolving.{resolved}
use Rattle.rel_shift.specs.declared.containing.Containing.{Containing}
use Rattle.style_types.specs.declared.style.Insets.{Insets}
use Rattle.rel_shift.specs.declared.insets.Shift.{Shift}

abbrev pub no_shift : Shift
no_shift = record { dx = pos 0; dy = pos 0 }

abbrev pub plus : Shift → Shift → Shift
plus one other = record { dx = one.dx +ℤ other.dx; dy = one.dy +ℤ other.dy }

-- so far towards a side of the page
abbrev pub towards : Side → ℤ → Shift
towards Top by = record { dx = pos 0; dy = neg_ℤ by }
towards Right by = record { dx = by; dy = pos 0 }
towards Bottom by = record { dx = pos 0; dy = by }
towards Left by = record { dx = neg_ℤ by; dy = pos 0 }

abbrev pub inset_on : Insets → Side → Size
inset_on insets Top = insets.top
inset_on insets Right = insets.right
inset_on insets Bottom = insets.bottom
inset_on insets Left = insets.left

-- the width and the height of a containing block, where they are known
abbrev pub width : Containing → Option ℤ
width c = if is_horizontal c.mode then Some c.inline else c.block

abbrev pub height : Containing → Option ℤ
height c = if is_horizontal c.mode then c.block else Some c.inline

-- percentages of left and right refer to the width, those of top and bottom to the height
abbrev pub base : Containing → Side → Option ℤ
base c Top = height c
base c Right = width c
base c Bottom = height c
base c Left = width c

-- none is auto; so is a percentage of what isn't known
abbrev pub inset : Insets → Containing → Side → Option ℤ
inset insets c side = resolved (inset_on insets side) (base c side)

-- the start side's inset, or else the end side's the other way, or else no shift
abbrev pub toward_end : (start end_ : Option ℤ) → ℤ
toward_end (Some start) end_ = start
toward_end None (Some end_) = neg_ℤ end_
toward_end None None = pos 0

-- on an axis of the containing block, in its own mode and direction
abbrev pub on_axis : Insets → Containing → (start end_ : FlowSide) → Shift
on_axis insets c start end_ =
    let start_side = side_of c.mode c.dir start in
    let end_side = side_of c.mode c.dir end_ in
    towards end_side (toward_end (inset insets c start_side) (inset insets c end_side))

abbrev pub own_shift : Insets → Containing → Shift
own_shift insets c = plus (on_axis insets c InlineStart InlineEnd) (on_axis insets c BlockStart BlockEnd)
