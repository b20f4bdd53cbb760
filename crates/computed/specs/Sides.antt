-- Sizes, margins, paddings, borders and insets. CSS 2, 8.3 to 8.5, 10.2 and 10.4; CSS Positioned Layout 3, 3.1.
use Rattle.std.specs.Prelude.{Bool, true, false, ℤ, pos}
use Rattle.wm_units.specs.Numbers.{fixed}
use Rattle.css_types.specs.declared.property.Property.{Property}
use Rattle.css_types.specs.declared.property.Property.TheVariants as properties
use Rattle.style_types.specs.declared.style.Insets.{Insets}
use Rattle.style_types.specs.declared.style.SideSizes.{SideSizes}
use Rattle.style_types.specs.declared.style.SideWidths.{SideWidths}
use Rattle.style_types.specs.declared.style.Size.{Size}
use Rattle.defaulting.specs.Defaulting.{computed}
use Rattle.style_types.specs.Initial.{initial}
use Rattle.computed.specs.Lengths.{extent_of}
use Rattle.computed.specs.Values.{size_of, margin_of, is_drawn}
use Rattle.computed.specs.Winners.{Winning, said}

-- a size, a minimum or a maximum
unfoldable pub size_at : (font_size : ℤ) → Winning → Property → Size
size_at font_size winners property = computed (size_of font_size) initial.width initial.width (said winners property)

-- a margin, a padding
unfoldable pub margin_at : (font_size : ℤ) → Winning → Property → Size
margin_at font_size winners property = computed (margin_of font_size) initial.margin.top initial.margin.top (said winners property)

unfoldable pub padding_at : (font_size : ℤ) → Winning → Property → Size
padding_at font_size winners property = computed (size_of font_size) initial.padding.top initial.padding.top (said winners property)

-- an inset: a length, a percentage or auto, as a margin is
unfoldable pub inset_at : (font_size : ℤ) → Winning → Property → Size
inset_at font_size winners property = computed (margin_of font_size) initial.insets.top initial.insets.top (said winners property)

-- the width of a border that says none, three pixels
abbrev pub medium : ℤ
medium = fixed (pos 300)

abbrev pub width_if : (drawn : Bool) → ℤ → ℤ
width_if true width = width
width_if false width = pos 0

-- a border that isn't drawn has no width (CSS 2, 8.5.3)
unfoldable pub border_at : (font_size : ℤ) → Winning → (style width : Property) → ℤ
border_at font_size winners style width = width_if (is_drawn (said winners style)) (computed (extent_of font_size) medium medium (said winners width))

-- ---- on every side

unfoldable pub margins : (font_size : ℤ) → Winning → SideSizes
margins font_size winners = record {
  top = margin_at font_size winners properties.MarginTop;
  right = margin_at font_size winners properties.MarginRight;
  bottom = margin_at font_size winners properties.MarginBottom;
  left = margin_at font_size winners properties.MarginLeft;
}

unfoldable pub paddings : (font_size : ℤ) → Winning → SideSizes
paddings font_size winners = record {
  top = padding_at font_size winners properties.PaddingTop;
  right = padding_at font_size winners properties.PaddingRight;
  bottom = padding_at font_size winners properties.PaddingBottom;
  left = padding_at font_size winners properties.PaddingLeft;
}

unfoldable pub borders : (font_size : ℤ) → Winning → SideWidths
borders font_size winners = record {
  top = border_at font_size winners properties.BorderTopStyle properties.BorderTopWidth;
  right = border_at font_size winners properties.BorderRightStyle properties.BorderRightWidth;
  bottom = border_at font_size winners properties.BorderBottomStyle properties.BorderBottomWidth;
  left = border_at font_size winners properties.BorderLeftStyle properties.BorderLeftWidth;
}

unfoldable pub insets : (font_size : ℤ) → Winning → Insets
insets font_size winners = record {
  top = inset_at font_size winners properties.InsetTop;
  right = inset_at font_size winners properties.InsetRight;
  bottom = inset_at font_size winners properties.InsetBottom;
  left = inset_at font_size winners properties.InsetLeft;
}
