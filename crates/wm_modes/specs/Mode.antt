-- What kinds of writing modes there are. CSS Writing Modes 4, 3.2, 5.1 and 7.3.
use Rattle.std.specs.Prelude.{Bool, true, false, not}
use Rattle.wm_modes.specs.declared.mode.WritingMode.{WritingMode}
use Rattle.wm_modes.specs.declared.mode.WritingMode.TheVariants.{HorizontalTb, VerticalRl, VerticalLr, SidewaysRl, SidewaysLr}

-- whether lines run across the page
abbrev pub is_horizontal : WritingMode → Bool
is_horizontal HorizontalTb = true
is_horizontal VerticalRl = false
is_horizontal VerticalLr = false
is_horizontal SidewaysRl = false
is_horizontal SidewaysLr = false

-- whether text can stand upright in the lines
abbrev pub has_upright_text : WritingMode → Bool
has_upright_text HorizontalTb = false
has_upright_text VerticalRl = true
has_upright_text VerticalLr = true
has_upright_text SidewaysRl = false
has_upright_text SidewaysLr = false

abbrev same : Bool → Bool → Bool
same true b = b
same false b = not b

-- both modes are horizontal, or neither is
abbrev pub are_parallel : WritingMode → WritingMode → Bool
are_parallel mode other = same (is_horizontal mode) (is_horizontal other)
