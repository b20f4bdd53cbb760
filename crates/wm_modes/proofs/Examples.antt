-- One flow rectangle in one content area, in every mode and direction, and some sides, computed.
use Rattle.std.specs.Prelude.{◌≡◌, refl, pos}
use Rattle.wm_modes.specs.Map.{map_of, unmap_of}
use Rattle.wm_modes.specs.Sides.{side_of}
use Rattle.wm_modes.specs.declared.mode.WritingMode.TheVariants.{HorizontalTb, VerticalRl, VerticalLr, SidewaysRl, SidewaysLr}
use Rattle.wm_modes.specs.declared.mode.Direction.TheVariants.{Ltr, Rtl}
use Rattle.wm_modes.specs.declared.rects.FlowRect.{FlowRect}
use Rattle.wm_modes.specs.declared.rects.Rect.{Rect}
use Rattle.wm_modes.specs.declared.sides.Side.TheVariants.{Right, Bottom, Left}
use Rattle.wm_modes.specs.declared.sides.FlowSide.TheVariants.{BlockStart, InlineStart, LineOver}

abbrev area : Rect
area = record { x = pos 1000; y = pos 2000; w = pos 600; h = pos 400 }

abbrev flow : FlowRect
flow = record { i = pos 10; b = pos 20; inline = pos 100; block = pos 50 }

horizontal_tb_ltr : map_of HorizontalTb Ltr area flow ≡ record { x = pos 1010; y = pos 2020; w = pos 100; h = pos 50 }
horizontal_tb_ltr = refl

horizontal_tb_rtl : map_of HorizontalTb Rtl area flow ≡ record { x = pos 1490; y = pos 2020; w = pos 100; h = pos 50 }
horizontal_tb_rtl = refl

vertical_rl_ltr : map_of VerticalRl Ltr area flow ≡ record { x = pos 1530; y = pos 2010; w = pos 50; h = pos 100 }
vertical_rl_ltr = refl

vertical_rl_rtl : map_of VerticalRl Rtl area flow ≡ record { x = pos 1530; y = pos 2290; w = pos 50; h = pos 100 }
vertical_rl_rtl = refl

vertical_lr_ltr : map_of VerticalLr Ltr area flow ≡ record { x = pos 1020; y = pos 2010; w = pos 50; h = pos 100 }
vertical_lr_ltr = refl

vertical_lr_rtl : map_of VerticalLr Rtl area flow ≡ record { x = pos 1020; y = pos 2290; w = pos 50; h = pos 100 }
vertical_lr_rtl = refl

sideways_rl_ltr : map_of SidewaysRl Ltr area flow ≡ record { x = pos 1530; y = pos 2010; w = pos 50; h = pos 100 }
sideways_rl_ltr = refl

sideways_rl_rtl : map_of SidewaysRl Rtl area flow ≡ record { x = pos 1530; y = pos 2290; w = pos 50; h = pos 100 }
sideways_rl_rtl = refl

sideways_lr_ltr : map_of SidewaysLr Ltr area flow ≡ record { x = pos 1020; y = pos 2290; w = pos 50; h = pos 100 }
sideways_lr_ltr = refl

sideways_lr_rtl : map_of SidewaysLr Rtl area flow ≡ record { x = pos 1020; y = pos 2010; w = pos 50; h = pos 100 }
sideways_lr_rtl = refl

sideways_lr_rtl_back : unmap_of SidewaysLr Rtl area (record { x = pos 1020; y = pos 2010; w = pos 50; h = pos 100 }) ≡ flow
sideways_lr_rtl_back = refl

-- sideways-lr lines go upwards, with their upper side at the left
upwards : side_of SidewaysLr Ltr InlineStart ≡ Bottom
upwards = refl

over_at_the_left : side_of SidewaysLr Ltr LineOver ≡ Left
over_at_the_left = refl

-- vertical-lr begins at the left, but over its lines is the right
over_at_the_right : side_of VerticalLr Rtl LineOver ≡ Right
over_at_the_right = refl

begins_at_the_left : side_of VerticalLr Rtl BlockStart ≡ Left
begins_at_the_left = refl
