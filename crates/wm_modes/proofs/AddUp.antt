-- Places in containing blocks of one mode and direction add up.
use Rattle.std.proofs.Common.{◌≡◌, arith}
use Rattle.std.proofs.lemmas.Int.{ints}
use Rattle.wm_modes.specs.Map.{map_of, inside}
use Rattle.wm_modes.specs.declared.mode.WritingMode.{WritingMode}
use Rattle.wm_modes.specs.declared.mode.WritingMode.TheVariants.{HorizontalTb, VerticalRl, VerticalLr, SidewaysRl, SidewaysLr}
use Rattle.wm_modes.specs.declared.mode.Direction.{Direction}
use Rattle.wm_modes.specs.declared.mode.Direction.TheVariants.{Ltr, Rtl}
use Rattle.wm_modes.specs.declared.rects.FlowRect.{FlowRect}
use Rattle.wm_modes.specs.declared.rects.Rect.{Rect}
use Rattle.wm_modes.proofs.MapLaws.{rect_is}

pub add_up : (mode : WritingMode) (dir : Direction) (area : Rect) (containing r : FlowRect) → map_of mode dir (map_of mode dir area containing) r ≡ map_of mode dir area (inside containing r)
add_up HorizontalTb Ltr area p r = rect_is _ _ _ _ (map_of HorizontalTb Ltr area (inside p r)) (omega (arith, ints)) (omega (arith, ints)) (omega (arith, ints)) (omega (arith, ints))
add_up HorizontalTb Rtl area p r = rect_is _ _ _ _ (map_of HorizontalTb Rtl area (inside p r)) (omega (arith, ints)) (omega (arith, ints)) (omega (arith, ints)) (omega (arith, ints))
add_up VerticalRl Ltr area p r = rect_is _ _ _ _ (map_of VerticalRl Ltr area (inside p r)) (omega (arith, ints)) (omega (arith, ints)) (omega (arith, ints)) (omega (arith, ints))
add_up VerticalRl Rtl area p r = rect_is _ _ _ _ (map_of VerticalRl Rtl area (inside p r)) (omega (arith, ints)) (omega (arith, ints)) (omega (arith, ints)) (omega (arith, ints))
add_up VerticalLr Ltr area p r = rect_is _ _ _ _ (map_of VerticalLr Ltr area (inside p r)) (omega (arith, ints)) (omega (arith, ints)) (omega (arith, ints)) (omega (arith, ints))
add_up VerticalLr Rtl area p r = rect_is _ _ _ _ (map_of VerticalLr Rtl area (inside p r)) (omega (arith, ints)) (omega (arith, ints)) (omega (arith, ints)) (omega (arith, ints))
add_up SidewaysRl Ltr area p r = rect_is _ _ _ _ (map_of SidewaysRl Ltr area (inside p r)) (omega (arith, ints)) (omega (arith, ints)) (omega (arith, ints)) (omega (arith, ints))
add_up SidewaysRl Rtl area p r = rect_is _ _ _ _ (map_of SidewaysRl Rtl area (inside p r)) (omega (arith, ints)) (omega (arith, ints)) (omega (arith, ints)) (omega (arith, ints))
add_up SidewaysLr Ltr area p r = rect_is _ _ _ _ (map_of SidewaysLr Ltr area (inside p r)) (omega (arith, ints)) (omega (arith, ints)) (omega (arith, ints)) (omega (arith, ints))
add_up SidewaysLr Rtl area p r = rect_is _ _ _ _ (map_of SidewaysLr Rtl area (inside p r)) (omega (arith, ints)) (omega (arith, ints)) (omega (arith, ints)) (omega (arith, ints))
