-- The style of an element from its parent's and from the values that won. CSS 2, 6.1.2; CSS Writing Modes 4, 3.2.
use Rattle.std.specs.Prelude.{ℕ, Bool, true, false, not, ℤ}
use Rattle.wm_modes.specs.declared.mode.WritingMode.{WritingMode}
use Rattle.wm_modes.specs.declared.mode.WritingMode.TheVariants.{HorizontalTb, VerticalRl, VerticalLr, SidewaysRl, SidewaysLr}
use Rattle.wm_modes.specs.declared.mode.Direction.{Direction}
use Rattle.css_types.specs.declared.property.Property.TheVariants as properties
use Rattle.style_types.specs.declared.style.Align.{Align}
use Rattle.style_types.specs.declared.style.Combine.{Combine}
use Rattle.style_types.specs.declared.style.Display.{Display}
use Rattle.style_types.specs.declared.style.Display.TheVariants.{Block, Inline, InlineBlock, FlowRoot}
use Rattle.style_types.specs.declared.style.LineHeight.{LineHeight}
use Rattle.style_types.specs.declared.style.Style.{Style}
use Rattle.style_types.specs.declared.style.TextOrientation.{TextOrientation}
use Rattle.style_types.specs.declared.style.UnicodeBidi.{UnicodeBidi}
use Rattle.defaulting.specs.Defaulting.{computed, computed_mode, computed_direction, computed_orientation}
use Rattle.style_types.specs.Initial.{initial}
use Rattle.defaulting.specs.SimpleValues.{display_of, bidi_of, align_of, relative_of}
use Rattle.computed.specs.Lengths.{font_size_of}
use Rattle.computed.specs.Sides.{size_at, margins, paddings, borders, insets}
use Rattle.computed.specs.Values.{combine_of, face_of, line_height_of, shift_of}
use Rattle.computed.specs.Winners.{Winning, won, said}

-- ---- the turning

abbrev pub same_mode : WritingMode → WritingMode → Bool
same_mode HorizontalTb HorizontalTb = true
same_mode VerticalRl VerticalRl = true
same_mode VerticalLr VerticalLr = true
same_mode SidewaysRl SidewaysRl = true
same_mode SidewaysLr SidewaysLr = true
same_mode one other = false

-- a box of another mode than its parent's turns: an inline box to an inline-block, a block to a flow root
abbrev pub turned : (differs : Bool) → Display → Display
turned true Inline = InlineBlock
turned true Block = FlowRoot
turned differs display = display

-- ---- each property: inherited, initial, or what the winner says

-- the element's own font size, of which its other lengths are
unfoldable pub own_font_size : Style → Winning → ℤ
own_font_size parent winners = computed (font_size_of parent.font_size) initial.font_size parent.font_size (said winners properties.FontSize)

unfoldable pub own_mode : (parent : WritingMode) → Winning → WritingMode
own_mode parent winners = computed_mode parent (won winners properties.WritingMode)

unfoldable pub own_display : (parent mode : WritingMode) → Winning → Display
own_display parent mode winners = turned (not (same_mode mode parent)) (computed display_of initial.display initial.display (said winners properties.Display))

unfoldable pub own_direction : (parent : Direction) → Winning → Direction
own_direction parent winners = computed_direction parent (won winners properties.Direction)

unfoldable pub own_orientation : (parent : TextOrientation) → Winning → TextOrientation
own_orientation parent winners = computed_orientation parent (won winners properties.TextOrientation)

unfoldable pub own_combine : (parent : Combine) → Winning → Combine
own_combine parent winners = computed combine_of initial.combine parent (said winners properties.TextCombineUpright)

unfoldable pub own_bidi : Winning → UnicodeBidi
own_bidi winners = computed bidi_of initial.bidi initial.bidi (said winners properties.UnicodeBidi)

unfoldable pub own_face : (parent : ℕ) → Winning → ℕ
own_face parent winners = computed face_of initial.face parent (said winners properties.FontFamily)

unfoldable pub own_line_height : (parent : LineHeight) → (font_size : ℤ) → Winning → LineHeight
own_line_height parent font_size winners = computed (line_height_of font_size) initial.line_height parent (said winners properties.LineHeight)

unfoldable pub own_align : (parent : Align) → Winning → Align
own_align parent winners = computed align_of initial.align parent (said winners properties.TextAlign)

unfoldable pub own_shift : (font_size : ℤ) → Winning → ℤ
own_shift font_size winners = computed (shift_of font_size) initial.shift initial.shift (said winners properties.VerticalAlign)

unfoldable pub own_relative : Winning → Bool
own_relative winners = computed relative_of initial.relative initial.relative (said winners properties.Position)

-- ---- the style

-- with the font size, every other property, one by one
unfoldable pub sized : (parent : Style) → (font_size : ℤ) → Winning → Style
sized parent font_size winners = let mode = own_mode parent.mode winners in record {
  display = own_display parent.mode mode winners;
  mode = mode;
  direction = own_direction parent.direction winners;
  orientation = own_orientation parent.orientation winners;
  combine = own_combine parent.combine winners;
  bidi = own_bidi winners;
  font_size = font_size;
  face = own_face parent.face winners;
  line_height = own_line_height parent.line_height font_size winners;
  align = own_align parent.align winners;
  shift = own_shift font_size winners;
  width = size_at font_size winners properties.Width;
  height = size_at font_size winners properties.Height;
  min_width = size_at font_size winners properties.MinWidth;
  min_height = size_at font_size winners properties.MinHeight;
  max_width = size_at font_size winners properties.MaxWidth;
  max_height = size_at font_size winners properties.MaxHeight;
  margin = margins font_size winners;
  padding = paddings font_size winners;
  border = borders font_size winners;
  relative = own_relative winners;
  insets = insets font_size winners;
}

abbrev pub style_of : (parent : Style) → Winning → Style
style_of parent winners = sized parent (own_font_size parent winners) winners
