-- What values that need no other one compute to, where they are values of the property. Lengths in units.
use Rattle.std.specs.Prelude.{Bool, true, false, ℤ, pos, Option, Some, None}
use Rattle.wm_units.specs.Numbers.{fixed}
use Rattle.wm_modes.specs.declared.mode.WritingMode.{WritingMode}
use Rattle.wm_modes.specs.declared.mode.WritingMode.TheVariants as modes
use Rattle.wm_modes.specs.declared.mode.Direction.{Direction}
use Rattle.wm_modes.specs.declared.mode.Direction.TheVariants as directions
use Rattle.css_types.specs.declared.keyword.Keyword.TheVariants as keywords
use Rattle.css_types.specs.declared.value.Value.{Value}
use Rattle.css_types.specs.declared.value.Value.TheVariants.{Keyword, Px, Percent, Face}
use Rattle.style_types.specs.declared.style.Display.{Display}
use Rattle.style_types.specs.declared.style.Display.TheVariants as displays
use Rattle.style_types.specs.declared.style.TextOrientation.{TextOrientation}
use Rattle.style_types.specs.declared.style.TextOrientation.TheVariants as orientations
use Rattle.style_types.specs.declared.style.Combine.{Combine}
use Rattle.style_types.specs.declared.style.Combine.TheVariants as combines
use Rattle.style_types.specs.declared.style.UnicodeBidi.{UnicodeBidi}
use Rattle.style_types.specs.declared.style.UnicodeBidi.TheVariants as bidis
use Rattle.style_types.specs.declared.style.LineHeight.{LineHeight}
use Rattle.style_types.specs.declared.style.LineHeight.TheVariants as line_heights
use Rattle.style_types.specs.declared.style.Align.{Align}
use Rattle.style_types.specs.declared.style.Align.TheVariants as aligns
use Rattle.style_types.specs.declared.style.Size.{Size}
use Rattle.style_types.specs.declared.style.Size.TheVariants as sizes

-- CSS 2, 9.2.4
abbrev pub display_of : Value → Option Display
display_of (Keyword keywords.Block) = Some displays.Block
display_of (Keyword keywords.Inline) = Some displays.Inline
display_of (Keyword keywords.InlineBlock) = Some displays.InlineBlock
display_of (Keyword keywords.FlowRoot) = Some displays.FlowRoot
display_of (Keyword keywords.None) = Some displays.Hidden
display_of value = None

-- CSS Writing Modes 4, 3.2
abbrev pub mode_of : Value → Option WritingMode
mode_of (Keyword keywords.HorizontalTb) = Some modes.HorizontalTb
mode_of (Keyword keywords.VerticalRl) = Some modes.VerticalRl
mode_of (Keyword keywords.VerticalLr) = Some modes.VerticalLr
mode_of (Keyword keywords.SidewaysRl) = Some modes.SidewaysRl
mode_of (Keyword keywords.SidewaysLr) = Some modes.SidewaysLr
mode_of value = None

-- CSS Writing Modes 4, 2.1
abbrev pub direction_of : Value → Option Direction
direction_of (Keyword keywords.Ltr) = Some directions.Ltr
direction_of (Keyword keywords.Rtl) = Some directions.Rtl
direction_of value = None

-- CSS Writing Modes 4, 5.1
abbrev pub orientation_of : Value → Option TextOrientation
orientation_of (Keyword keywords.Mixed) = Some orientations.Mixed
orientation_of (Keyword keywords.Upright) = Some orientations.Upright
orientation_of (Keyword keywords.Sideways) = Some orientations.Sideways
orientation_of value = None

-- CSS Writing Modes 4, 9.1
abbrev pub combine_of : Value → Option Combine
combine_of (Keyword keywords.None) = Some combines.Never
combine_of (Keyword keywords.All) = Some combines.All
combine_of value = None

-- CSS Writing Modes 4, 2.2
abbrev pub bidi_of : Value → Option UnicodeBidi
bidi_of (Keyword keywords.Normal) = Some bidis.Normal
bidi_of (Keyword keywords.Embed) = Some bidis.Embed
bidi_of (Keyword keywords.Isolate) = Some bidis.Isolate
bidi_of (Keyword keywords.BidiOverride) = Some bidis.BidiOverride
bidi_of (Keyword keywords.IsolateOverride) = Some bidis.IsolateOverride
bidi_of (Keyword keywords.Plaintext) = Some bidis.Plaintext
bidi_of value = None

-- CSS 2, 10.8.1
abbrev pub line_height_of : Value → Option LineHeight
line_height_of (Keyword keywords.Normal) = Some line_heights.Normal
line_height_of value = None

-- CSS 2, 16.2
abbrev pub align_of : Value → Option Align
align_of (Keyword keywords.Start) = Some aligns.Start
align_of (Keyword keywords.End) = Some aligns.End
align_of (Keyword keywords.Left) = Some aligns.Left
align_of (Keyword keywords.Right) = Some aligns.Right
align_of (Keyword keywords.Center) = Some aligns.Center
align_of value = None

-- a length, of which baseline is that of no shift (CSS 2, 10.8.1)
abbrev pub length_of : Value → Option ℤ
length_of (Px hundredths) = Some (fixed hundredths)
length_of (Keyword keywords.Baseline) = Some (pos 0)
length_of value = None

-- whether a box is relatively positioned (CSS Positioned Layout 3, 2)
abbrev pub relative_of : Value → Option Bool
relative_of (Keyword keywords.Static) = Some false
relative_of (Keyword keywords.Relative) = Some true
relative_of value = None

-- a size, margin, padding or inset; a maximum of none is Auto (CSS 2, 8.3, 8.4, 10.2 and 10.4; CSS Positioned Layout 3,
-- 3.1)
abbrev pub size_of : Value → Option Size
size_of (Keyword keywords.Auto) = Some sizes.Auto
size_of (Keyword keywords.None) = Some sizes.Auto
size_of (Px hundredths) = Some (sizes.Length (fixed hundredths))
size_of (Percent hundredths) = Some (sizes.Percent hundredths)
size_of value = None

-- a border of style none or hidden has no width (CSS 2, 8.5.3)
abbrev pub border_of : (style width : Value) → Option ℤ
border_of (Keyword keywords.None) width = Some (pos 0)
border_of (Keyword keywords.Hidden) width = Some (pos 0)
border_of style width = length_of width
