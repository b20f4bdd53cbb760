-- The initial style is what the table of properties says: each field is computed from the initial value of its property. CSS 2, 6.1.1.
use Rattle.std.specs.Prelude.{◌≡◌, ℤ, Option, Some}
use Rattle.css_types.specs.declared.property.Property.{Property}
use Rattle.css_types.specs.declared.property.Property.TheVariants as properties
use Rattle.css_types.specs.declared.value.Value.{Value}
use Rattle.css_types.specs.declared.value.Value.TheVariants.{Face}
use Rattle.style_types.specs.declared.style.Style.{Style}
use Rattle.css_types.specs.Table.{HasInitial}
use Rattle.defaulting.specs.SimpleValues.{align_of, bidi_of, border_of, combine_of, direction_of, display_of, length_of, line_height_of, mode_of, orientation_of, relative_of, size_of}

-- x is computed so from the initial value of the property
abbrev pub FromInitial : {T : Type 0} → Property → (Value → Option T) → T → Type 0
FromInitial property computed x = (value : Value) × HasInitial property value × (computed value ≡ Some x)

-- the width of a border is computed from the initial values of its style and its width
abbrev pub BorderFromInitial : (style width : Property) → ℤ → Type 0
BorderFromInitial style width x = (s w : Value) × HasInitial style s × HasInitial width w × (border_of s w ≡ Some x)

pub record IsInitial (style : Style) : Type 0 where
  pub display : FromInitial properties.Display display_of style.display
  pub mode : FromInitial properties.WritingMode mode_of style.mode
  pub direction : FromInitial properties.Direction direction_of style.direction
  pub orientation : FromInitial properties.TextOrientation orientation_of style.orientation
  pub combine : FromInitial properties.TextCombineUpright combine_of style.combine
  pub bidi : FromInitial properties.UnicodeBidi bidi_of style.bidi
  pub font_size : FromInitial properties.FontSize length_of style.font_size
  pub face : HasInitial properties.FontFamily (Face style.face)
  pub line_height : FromInitial properties.LineHeight line_height_of style.line_height
  pub align : FromInitial properties.TextAlign align_of style.align
  pub shift : FromInitial properties.VerticalAlign length_of style.shift
  pub width : FromInitial properties.Width size_of style.width
  pub height : FromInitial properties.Height size_of style.height
  pub min_width : FromInitial properties.MinWidth size_of style.min_width
  pub min_height : FromInitial properties.MinHeight size_of style.min_height
  pub max_width : FromInitial properties.MaxWidth size_of style.max_width
  pub max_height : FromInitial properties.MaxHeight size_of style.max_height
  pub margin_top : FromInitial properties.MarginTop size_of style.margin.top
  pub margin_right : FromInitial properties.MarginRight size_of style.margin.right
  pub margin_bottom : FromInitial properties.MarginBottom size_of style.margin.bottom
  pub margin_left : FromInitial properties.MarginLeft size_of style.margin.left
  pub padding_top : FromInitial properties.PaddingTop size_of style.padding.top
  pub padding_right : FromInitial properties.PaddingRight size_of style.padding.right
  pub padding_bottom : FromInitial properties.PaddingBottom size_of style.padding.bottom
  pub padding_left : FromInitial properties.PaddingLeft size_of style.padding.left
  pub border_top : BorderFromInitial properties.BorderTopStyle properties.BorderTopWidth style.border.top
  pub border_right : BorderFromInitial properties.BorderRightStyle properties.BorderRightWidth style.border.right
  pub border_bottom : BorderFromInitial properties.BorderBottomStyle properties.BorderBottomWidth style.border.bottom
  pub border_left : BorderFromInitial properties.BorderLeftStyle properties.BorderLeftWidth style.border.left
  pub relative : FromInitial properties.Position relative_of style.relative
  pub inset_top : FromInitial properties.InsetTop size_of style.insets.top
  pub inset_right : FromInitial properties.InsetRight size_of style.insets.right
  pub inset_bottom : FromInitial properties.InsetBottom size_of style.insets.bottom
  pub inset_left : FromInitial properties.InsetLeft size_of style.insets.left
