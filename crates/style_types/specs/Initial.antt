-- The initial style. CSS 2, 6.1.1.
use Rattle.std.specs.Prelude.{false, pos}
use Rattle.wm_modes.specs.declared.mode.WritingMode.TheVariants as modes
use Rattle.wm_modes.specs.declared.mode.Direction.TheVariants as directions
use Rattle.style_types.specs.declared.style.SideSizes.{SideSizes}
use Rattle.style_types.specs.declared.style.Style.{Style}
use Rattle.style_types.specs.declared.style.Display.TheVariants as displays
use Rattle.style_types.specs.declared.style.TextOrientation.TheVariants as orientations
use Rattle.style_types.specs.declared.style.Combine.TheVariants as combines
use Rattle.style_types.specs.declared.style.UnicodeBidi.TheVariants as bidis
use Rattle.style_types.specs.declared.style.LineHeight.TheVariants as line_heights
use Rattle.style_types.specs.declared.style.Align.TheVariants as aligns
use Rattle.style_types.specs.declared.style.Size.{Size}
use Rattle.style_types.specs.declared.style.Size.TheVariants as sizes

abbrev pub on_sides : Size → SideSizes
on_sides size = record { top = size; right = size; bottom = size; left = size }

-- each field has what the initial value of its property computes to
unfoldable pub initial : Style
initial = record {
  display = displays.Inline;
  mode = modes.HorizontalTb;
  direction = directions.Ltr;
  orientation = orientations.Mixed;
  combine = combines.Never;
  bidi = bidis.Normal;
  font_size = pos 1024;
  face = 0;
  line_height = line_heights.Normal;
  align = aligns.Start;
  shift = pos 0;
  width = sizes.Auto;
  height = sizes.Auto;
  min_width = sizes.Auto;
  min_height = sizes.Auto;
  max_width = sizes.Auto;
  max_height = sizes.Auto;
  margin = on_sides (sizes.Length (pos 0));
  padding = on_sides (sizes.Length (pos 0));
  border = record { top = pos 0; right = pos 0; bottom = pos 0; left = pos 0 };
  relative = false;
  insets = record { top = sizes.Auto; right = sizes.Auto; bottom = sizes.Auto; left = sizes.Auto };
}
