-- The words of modes and directions, as style sheets and listings write them. CSS Writing Modes 4, 2.1 and 3.2.
use Rattle.std.specs.Prelude.{ℕ, List, codes}
use Rattle.wm_modes.specs.declared.mode.WritingMode.{WritingMode}
use Rattle.wm_modes.specs.declared.mode.WritingMode.TheVariants.{HorizontalTb, VerticalRl, VerticalLr, SidewaysRl, SidewaysLr}
use Rattle.wm_modes.specs.declared.mode.Direction.{Direction}
use Rattle.wm_modes.specs.declared.mode.Direction.TheVariants.{Ltr, Rtl}

unfoldable pub mode_word : WritingMode → List ℕ
mode_word HorizontalTb = codes "horizontal-tb"
mode_word VerticalRl = codes "vertical-rl"
mode_word VerticalLr = codes "vertical-lr"
mode_word SidewaysRl = codes "sideways-rl"
mode_word SidewaysLr = codes "sideways-lr"

unfoldable pub direction_word : Direction → List ℕ
direction_word Ltr = codes "ltr"
direction_word Rtl = codes "rtl"
