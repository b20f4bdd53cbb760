-- Styles, boxes and lines in each way, by computation.
use Rattle.std.proofs.Common.{◌≡◌, refl, Some, pos, neg_ℤ}
use Rattle.style_types.specs.Initial.{initial}
use Rattle.style_types.specs.declared.style.Combine.TheVariants.{All, Never}
use Rattle.style_types.specs.declared.style.SideSizes.{SideSizes}
use Rattle.style_types.specs.declared.style.Size.TheVariants.{Auto, Length, Percent}
use Rattle.style_types.specs.declared.style.Style.{Style}
use Rattle.style_types.specs.declared.style.TextOrientation.TheVariants.{Mixed, Sideways, Upright}
use Rattle.wm_modes.specs.Sides.{side_of}
use Rattle.wm_modes.specs.declared.mode.Direction.TheVariants.{Ltr, Rtl}
use Rattle.wm_modes.specs.declared.mode.WritingMode.TheVariants.{SidewaysLr, SidewaysRl}
use Rattle.wm_modes.specs.declared.sides.FlowSide.TheVariants.{BlockStart, InlineStart, LineLeft}
use Rattle.box_gen.specs.Tree.{blocks, box, none}
use Rattle.para_lines.specs.Edges.{inline_edge, size_on}
use Rattle.mode_ways.specs.Ways.{down, left, right, boxes_in, plain, sides_in, style_in, widths_in}

-- a margin of its own on each side
abbrev unlike : SideSizes
unlike = record { top = Length (pos 1); right = Length (neg_ℤ (pos 2)); bottom = Percent (pos 3); left = Auto }

across_stays : sides_in plain unlike ≡ unlike
across_stays = refl

down_goes_round : sides_in down unlike ≡ record { top = Auto; right = Length (pos 1); bottom = Length (neg_ℤ (pos 2)); left = Percent (pos 3) }
down_goes_round = refl

right_goes_round : sides_in (right Upright All) unlike ≡ sides_in down unlike
right_goes_round = refl

left_goes_round : sides_in (left Mixed Never) unlike ≡ record { top = Length (neg_ℤ (pos 2)); right = Percent (pos 3); bottom = Auto; left = Length (pos 1) }
left_goes_round = refl

borders_go_round : widths_in (left Mixed Never) (record { top = pos 1; right = pos 2; bottom = pos 3; left = pos 4 }) ≡ record { top = pos 2; right = pos 3; bottom = pos 4; left = pos 1 }
borders_go_round = refl

-- line-left is the bottom in sideways-lr, and block-start the left
bottom_is_line_left : size_on (sides_in (left Mixed Never) unlike) (side_of SidewaysLr Rtl LineLeft) ≡ Auto
bottom_is_line_left = refl

left_is_block_start : size_on (sides_in (left Mixed Never) unlike) (side_of SidewaysLr Ltr BlockStart) ≡ Length (pos 1)
left_is_block_start = refl

-- a box that is wide in the flow, whose text goes from right to left, with another margin on each side
abbrev wide : Style
wide = record initial { direction = Rtl; width = Length (pos 640); margin = unlike; border = record { top = pos 1; right = pos 20; bottom = pos 3; left = pos 4 } }

wide_is_high : (style_in down wide).height ≡ Length (pos 640)
unfolding initial
wide_is_high = refl

high_is_wide : (style_in down wide).width ≡ Auto
unfolding initial
high_is_wide = refl

text_is_sideways : (style_in down wide).orientation ≡ Sideways
text_is_sideways = refl

-- inline-start is line-right: the margin of -2 and the border of 20
edge_at_inline_start : inline_edge (Some (pos 64)) (style_in plain wide) InlineStart ≡ pos 18
unfolding initial
edge_at_inline_start = refl

edge_at_inline_start_down : inline_edge (Some (pos 64)) (style_in down wide) InlineStart ≡ pos 18
unfolding initial
edge_at_inline_start_down = refl

edge_at_inline_start_left : inline_edge (Some (pos 64)) (style_in (left Mixed Never) wide) InlineStart ≡ pos 18
unfolding initial
edge_at_inline_start_left = refl

-- a tree of two boxes, the one in the other
boxes_are_of_the_way : boxes_in (right Mixed Never) (box (record { node = 1; ordinal = 0 }) initial blocks (box (record { node = 2; ordinal = 0 }) wide blocks none none) none)
    ≡ box (record { node = 1; ordinal = 0 }) (record initial { mode = SidewaysRl }) blocks
    (box (record { node = 2; ordinal = 0 }) (record wide { mode = SidewaysRl; width = Auto; height = Length (pos 640); margin = record { top = Auto; right = Length (pos 1); bottom = Length (neg_ℤ (pos 2)); left = Percent (pos 3) }; border = record { top = pos 4; right = pos 1; bottom = pos 20; left = pos 3 } }) blocks none none) none
unfolding boxes_in initial
boxes_are_of_the_way = refl
