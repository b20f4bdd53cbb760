-- What holds of computed styles. CSS 2, 6.2; CSS Writing Modes 4, 3.2.
use Rattle.std.specs.Prelude.{◌≡◌, ◌≢◌, []}
use Rattle.style_types.specs.declared.style.Display.TheVariants.{Block, Inline}
use Rattle.style_types.specs.declared.style.Style.{Style}
use Rattle.style_types.specs.Initial.{initial}
use Rattle.computed.specs.Step.{style_of}
use Rattle.computed.specs.Winners.{Winning}

-- how text is set is the parent's, all else is initial
abbrev pub inherited : Style → Style
inherited parent = record {
  display = initial.display;
  mode = parent.mode;
  direction = parent.direction;
  orientation = parent.orientation;
  combine = parent.combine;
  bidi = initial.bidi;
  font_size = parent.font_size;
  face = parent.face;
  line_height = parent.line_height;
  align = parent.align;
  shift = initial.shift;
  width = initial.width;
  height = initial.height;
  min_width = initial.min_width;
  min_height = initial.min_height;
  max_width = initial.max_width;
  max_height = initial.max_height;
  margin = initial.margin;
  padding = initial.padding;
  border = initial.border;
  relative = initial.relative;
  insets = initial.insets;
}

-- where nothing won, an element inherits
abbrev pub Inherits : Type 0
Inherits = (parent : Style) → style_of parent [] ≡ inherited parent

-- a box of another mode than its parent's is neither inline nor a block
pub record IsTurned (parent style : Style) : Type 0 where
  pub not_inline : style.mode ≢ parent.mode → style.display ≢ Inline
  pub not_block : style.mode ≢ parent.mode → style.display ≢ Block

abbrev pub Turns : Type 0
Turns = (parent : Style) (winners : Winning) → IsTurned parent (style_of parent winners)
