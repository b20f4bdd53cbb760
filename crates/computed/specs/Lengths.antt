-- Lengths of computed styles, in units of 1/64 px. CSS 2, 4.3.2 and 4.3.3.
use Rattle.std.specs.Prelude.{Bool, true, false, Option, Some, None, ℤ, pos, ◌≤ℤ◌, int_le}
use Rattle.std.specs.Int.{int_min, int_max}
use Rattle.wm_units.specs.Numbers.{fixed, scaled, percent, cap}
use Rattle.css_types.specs.declared.value.Value.{Value}
use Rattle.css_types.specs.declared.value.Value.TheVariants.{Px, Em, Percent}

-- a font size is from 0 to 1,024 pixels
abbrev pub IsFontSize : ℤ → Type 0
IsFontSize units = (pos 0 ≤ℤ units) × (units ≤ℤ pos 65536)

-- a length; `em` is of this font size
abbrev pub length_of : (font_size : ℤ) → Value → Option ℤ
length_of font_size (Px hundredths) = Some (cap (fixed hundredths))
length_of font_size (Em hundredths) = Some (cap (scaled hundredths font_size))
length_of font_size value = None

-- a length, where numbers below 0 are none
abbrev pub if_not_below : {T : Type 0} → Bool → T → Option T
if_not_below true x = Some x
if_not_below false x = None

abbrev pub not_below : {T : Type 0} → (number : ℤ) → T → Option T
not_below number x = if_not_below (int_le (pos 0) number) x

-- a length from 0 on
abbrev pub extent_of : (font_size : ℤ) → Value → Option ℤ
extent_of font_size (Px hundredths) = not_below hundredths (cap (fixed hundredths))
extent_of font_size (Em hundredths) = not_below hundredths (cap (scaled hundredths font_size))
extent_of font_size value = None

-- font sizes are held within 0 and 1,024 pixels
abbrev pub held_font_size : ℤ → ℤ
held_font_size units = int_max (pos 0) (int_min units (pos 65536))

-- a font size; `em` and percentages are of the parent's (CSS Fonts 3, 3.5)
abbrev pub font_size_of : (parent : ℤ) → Value → Option ℤ
font_size_of parent (Px hundredths) = not_below hundredths (held_font_size (fixed hundredths))
font_size_of parent (Em hundredths) = not_below hundredths (held_font_size (scaled hundredths parent))
font_size_of parent (Percent hundredths) = not_below hundredths (held_font_size (percent hundredths parent))
font_size_of parent value = None
