-- How far the numbers of computed styles reach, and which text is upright. CSS 2, 4.3.2; CSS Writing Modes 4, 5.1.
use Rattle.std.specs.Prelude.{◌<◌, ◌≤◌, ◌^◌, Bool, true, false, ⊤, ℤ, pos, ◌≤ℤ◌, unsigned_abs}
use Rattle.wm_modes.specs.declared.mode.WritingMode.{WritingMode}
use Rattle.wm_modes.specs.declared.mode.WritingMode.TheVariants.{VerticalRl, VerticalLr}
use Rattle.wm_units.specs.Numbers.{greatest_length}
use Rattle.style_types.specs.declared.style.Baseline.{Baseline}
use Rattle.style_types.specs.declared.style.Baseline.TheVariants.{Alphabetic, Central}
use Rattle.style_types.specs.declared.style.Combine.{Combine}
use Rattle.style_types.specs.declared.style.Combine.TheVariants as combines
use Rattle.style_types.specs.declared.style.Insets.{Insets}
use Rattle.style_types.specs.declared.style.LineHeight.{LineHeight}
use Rattle.style_types.specs.declared.style.LineHeight.TheVariants as line_heights
use Rattle.style_types.specs.declared.style.SideSizes.{SideSizes}
use Rattle.style_types.specs.declared.style.SideWidths.{SideWidths}
use Rattle.style_types.specs.declared.style.Size.{Size}
use Rattle.style_types.specs.declared.style.Size.TheVariants as sizes
use Rattle.style_types.specs.declared.style.Style.{Style}
use Rattle.style_types.specs.declared.style.TextOrientation.{TextOrientation}
use Rattle.style_types.specs.declared.style.TextOrientation.TheVariants.{Mixed, Upright, Sideways}
use Rattle.wm_units.specs.Numbers.{IsSayable}

abbrev pub is_upright : TextOrientation → Bool
is_upright Mixed = false
is_upright Upright = true
is_upright Sideways = false

-- the kind of baseline in vertical lines
abbrev pub vertical_baseline : TextOrientation → Baseline
vertical_baseline Sideways = Alphabetic
vertical_baseline _ = Central

-- the kind of baseline of a paragraph
abbrev pub baseline_of : WritingMode → TextOrientation → Baseline
baseline_of VerticalRl orientation = vertical_baseline orientation
baseline_of VerticalLr orientation = vertical_baseline orientation
baseline_of _ orientation = Alphabetic

-- a length that is held within the greatest length on both sides of 0
abbrev pub IsLength : ℤ → Type 0
IsLength length = unsigned_abs length ≤ 2 ^ 32

-- a length from 0 to the greatest
abbrev pub IsExtent : ℤ → Type 0
IsExtent length = (pos 0 ≤ℤ length) × (length ≤ℤ greatest_length)

-- a percentage that isn't negative
abbrev pub IsShare : ℤ → Type 0
IsShare hundredths = (pos 0 ≤ℤ hundredths) × IsSayable hundredths

-- a size, a minimum or a maximum
abbrev pub IsSize : Size → Type 0
IsSize sizes.Auto = ⊤
IsSize (sizes.Length length) = IsExtent length
IsSize (sizes.Percent hundredths) = IsShare hundredths

abbrev pub IsMargin : Size → Type 0
IsMargin sizes.Auto = ⊤
IsMargin (sizes.Length length) = IsLength length
IsMargin (sizes.Percent hundredths) = IsSayable hundredths

abbrev pub IsPadding : Size → Type 0
IsPadding sizes.Auto = ⊥
IsPadding (sizes.Length length) = IsExtent length
IsPadding (sizes.Percent hundredths) = IsShare hundredths

abbrev pub IsLineHeight : LineHeight → Type 0
IsLineHeight line_heights.Normal = ⊤
IsLineHeight (line_heights.Number hundredths) = IsShare hundredths
IsLineHeight (line_heights.Length length) = IsExtent length

abbrev pub IsCombine : Combine → Type 0
IsCombine combines.Never = ⊤
IsCombine combines.All = ⊤
IsCombine (combines.Digits most) = (2 ≤ most) × (most ≤ 4)

-- this holds on each side
pub record OnSides (P : Size → Type 0) (sides : SideSizes) : Type 0 where
  pub top : P sides.top
  pub right : P sides.right
  pub bottom : P sides.bottom
  pub left : P sides.left

-- insets reach as far as margins do
pub record AreInsets (insets : Insets) : Type 0 where
  pub top : IsMargin insets.top
  pub right : IsMargin insets.right
  pub bottom : IsMargin insets.bottom
  pub left : IsMargin insets.left

pub record AreBorders (border : SideWidths) : Type 0 where
  pub top : IsExtent border.top
  pub right : IsExtent border.right
  pub bottom : IsExtent border.bottom
  pub left : IsExtent border.left

-- the numbers of a computed style
pub record IsBounded (style : Style) : Type 0 where
  pub combine : IsCombine style.combine
  pub font_size_low : pos 0 ≤ℤ style.font_size
  pub font_size_high : style.font_size ≤ℤ pos 65536
  pub face : style.face < 8
  pub line_height : IsLineHeight style.line_height
  pub shift : IsLength style.shift
  pub width : IsSize style.width
  pub height : IsSize style.height
  pub min_width : IsSize style.min_width
  pub min_height : IsSize style.min_height
  pub max_width : IsSize style.max_width
  pub max_height : IsSize style.max_height
  pub margin : OnSides IsMargin style.margin
  pub padding : OnSides IsPadding style.padding
  pub border : AreBorders style.border
  pub insets : AreInsets style.insets
