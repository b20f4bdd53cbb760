-- The extents of inline boxes over and under a line's baseline. CSS 2, 10.8.1; CSS Writing Modes 4, 4.2.
use Rattle.std.specs.Prelude.{ℕ, ℤ, pos, ◌+ℤ◌, ◌-ℤ◌, ◌*ℤ◌}
use Rattle.std.specs.Int.{int_div_euclid}
use Rattle.wm_units.specs.Numbers.{half, scaled, cap}
use Rattle.style_types.specs.declared.style.Style.{Style}
use Rattle.style_types.specs.declared.style.Baseline.{Baseline}
use Rattle.style_types.specs.declared.style.Baseline.TheVariants.{Alphabetic, Central}
use Rattle.style_types.specs.declared.style.LineHeight.{LineHeight}
use Rattle.style_types.specs.declared.style.LineHeight.TheVariants.{Normal, Number, Length}
use Rattle.line_place.specs.declared.line.Extents.{Extents}
use Rattle.line_place.specs.declared.leading.TextExtents.{TextExtents}

-- thousandths of the font size, cut downwards
abbrev pub share : (thousandths : ℕ) → (font_size : ℤ) → ℤ
share thousandths font_size = int_div_euclid (pos thousandths *ℤ font_size) (pos 1000)

-- how far text reaches over and under its own baseline: with a central baseline the halves of both together, the smaller
-- one over
abbrev pub by_baseline : (ascent descent : ℤ) → Baseline → TextExtents
by_baseline ascent descent Alphabetic = record { over = ascent; under = descent }
by_baseline ascent descent Central = record { over = half (ascent +ℤ descent); under = ascent +ℤ descent -ℤ half (ascent +ℤ descent) }

-- the line height, where `normal` is what the text takes
abbrev pub used_height : LineHeight → (font_size text : ℤ) → ℤ
used_height Normal font_size text = text
used_height (Number hundredths) font_size text = cap (scaled hundredths font_size)
used_height (Length length) font_size text = length

abbrev pub line_height : Style → (text : ℤ) → ℤ
line_height style text = used_height style.line_height style.font_size text

-- how far the line height reaches over the baseline of its box: over the text stands half of the leading, which is what
-- the line height is more than the text
abbrev pub over_baseline : (ascent descent height : ℤ) → ℤ
over_baseline ascent descent height = ascent +ℤ half (height -ℤ (ascent +ℤ descent))

-- the rest of the line height reaches under it; a box that is raised has more over and less under the line's baseline
abbrev pub spread : (ascent descent height raised : ℤ) → Extents
spread ascent descent height raised = record {
  ascent = ascent;
  descent = descent;
  over = over_baseline ascent descent height +ℤ raised;
  under = height -ℤ over_baseline ascent descent height -ℤ raised;
  raised = raised;
}

abbrev pub spread_text : TextExtents → Style → (raised : ℤ) → Extents
spread_text text style raised = spread text.over text.under (line_height style (text.over +ℤ text.under)) raised

abbrev pub extents : (ascent descent : ℕ) → Style → Baseline → (raised : ℤ) → Extents
extents ascent descent style baseline raised =
    spread_text (by_baseline (share ascent style.font_size) (share descent style.font_size) baseline) style raised
