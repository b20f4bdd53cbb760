-- What values compute to, where they are values of the property. CSS 2, 6.1.2.
use Rattle.std.specs.Prelude.{ℕ, Bool, true, false, ◌&&◌, nat_le, Option, Some, None, option_map, ℤ, pos}
use Rattle.wm_units.specs.Numbers.{percent, cap}
use Rattle.css_types.specs.declared.keyword.Keyword.TheVariants as keywords
use Rattle.css_types.specs.declared.value.Value.{Value}
use Rattle.css_types.specs.declared.value.Value.TheVariants.{Keyword, Percent, Number, Face, Digits}
use Rattle.style_types.specs.declared.style.Combine.{Combine}
use Rattle.style_types.specs.declared.style.Combine.TheVariants as combines
use Rattle.style_types.specs.declared.style.LineHeight.{LineHeight}
use Rattle.style_types.specs.declared.style.LineHeight.TheVariants as line_heights
use Rattle.style_types.specs.declared.style.Size.{Size}
use Rattle.style_types.specs.declared.style.Size.TheVariants as sizes
use Rattle.computed.specs.Lengths.{length_of, extent_of, if_not_below, not_below}

-- CSS Writing Modes 4, 9.1
abbrev pub combine_of : Value → Option Combine
combine_of (Keyword keywords.None) = Some combines.Never
combine_of (Keyword keywords.All) = Some combines.All
combine_of (Digits most) = if_not_below (nat_le 2 most && nat_le most 4) (combines.Digits most)
combine_of value = None

-- one of the eight faces
abbrev pub face_of : Value → Option ℕ
face_of (Face number) = if_not_below (nat_le number 7) number
face_of value = None

-- a number stays one, a percentage is a length of the element's own font size (CSS 2, 10.8.1)
abbrev pub line_height_of : (font_size : ℤ) → Value → Option LineHeight
line_height_of font_size (Keyword keywords.Normal) = Some line_heights.Normal
line_height_of font_size (Number hundredths) = not_below hundredths (line_heights.Number hundredths)
line_height_of font_size (Percent hundredths) = not_below hundredths (line_heights.Length (cap (percent hundredths font_size)))
line_height_of font_size value = option_map line_heights.Length (extent_of font_size value)

-- the baseline is moved by nothing (CSS 2, 10.8.1)
abbrev pub shift_of : (font_size : ℤ) → Value → Option ℤ
shift_of font_size (Keyword keywords.Baseline) = Some (pos 0)
shift_of font_size value = length_of font_size value

-- a size or a minimum of auto, a maximum of none, which is Auto too (CSS 2, 10.2 and 10.4)
abbrev pub size_of : (font_size : ℤ) → Value → Option Size
size_of font_size (Percent hundredths) = not_below hundredths (sizes.Percent hundredths)
size_of font_size value = option_map sizes.Length (extent_of font_size value)

-- CSS 2, 8.3
abbrev pub margin_of : (font_size : ℤ) → Value → Option Size
margin_of font_size (Keyword keywords.Auto) = Some sizes.Auto
margin_of font_size (Percent hundredths) = Some (sizes.Percent hundredths)
margin_of font_size value = option_map sizes.Length (length_of font_size value)

-- a border of another style than none and hidden (CSS 2, 8.5.3)
abbrev pub is_drawn : Option Value → Bool
is_drawn (Some (Keyword keywords.Dotted)) = true
is_drawn (Some (Keyword keywords.Dashed)) = true
is_drawn (Some (Keyword keywords.Solid)) = true
is_drawn (Some (Keyword keywords.Double)) = true
is_drawn (Some (Keyword keywords.Groove)) = true
is_drawn (Some (Keyword keywords.Ridge)) = true
is_drawn (Some (Keyword keywords.Inset)) = true
is_drawn (Some (Keyword keywords.Outset)) = true
is_drawn other = false
