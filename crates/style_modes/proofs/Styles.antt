-- The style of an element whose claims tie it to no mode is in each way that of a horizontal flow, in that way.
use Rattle.std.proofs.Common.{◌≡◌, ◌∙◌, Bool, false, List, Option, None, ℤ, refl, sym, ap}
use Rattle.std.specs.Prelude.{not}
use Rattle.std.proofs.Math.Path.{fun_ext}
use Rattle.wm_modes.specs.declared.mode.Direction.{Direction}
use Rattle.wm_modes.specs.declared.mode.WritingMode.{WritingMode}
use Rattle.wm_modes.specs.declared.mode.WritingMode.TheVariants.{HorizontalTb}
use Rattle.wm_modes.specs.Sides.{used_direction}
use Rattle.css_types.specs.declared.property.Property.{Property}
use Rattle.css_types.specs.declared.property.Property.TheVariants as properties
use Rattle.css_types.specs.declared.value.Value.{Value}
use Rattle.style_types.specs.declared.style.Combine.{Combine}
use Rattle.style_types.specs.declared.style.Combine.TheVariants.{Never}
use Rattle.style_types.specs.declared.style.Size.{Size}
use Rattle.style_types.specs.declared.style.Style.{Style}
use Rattle.style_types.specs.declared.style.TextOrientation.{TextOrientation}
use Rattle.style_types.specs.declared.style.TextOrientation.TheVariants.{Mixed}
use Rattle.style_types.specs.Initial.{initial}
use Rattle.style_types.specs.Style.{is_upright}
use Rattle.defaulting.specs.Defaulting.{computed, computed_direction, computed_mode, computed_orientation, specified}
use Rattle.defaulting.specs.SimpleValues.{align_of, bidi_of, direction_of, display_of, relative_of}
use Rattle.cascade.specs.declared.claim.Claim.{Claim}
use Rattle.cascade.specs.Winners.{first_winner, winners_by, winners_in}
use Rattle.computed.specs.Lengths.{extent_of, font_size_of}
use Rattle.computed.specs.Sides.{border_at, borders, inset_at, insets, margin_at, margins, medium, padding_at, paddings, size_at, width_if}
use Rattle.computed.specs.Step.{own_align, own_bidi, own_combine, own_direction, own_display, own_face, own_font_size, own_line_height, own_mode, own_orientation, own_relative, own_shift, same_mode, sized, style_of, turned}
use Rattle.computed.specs.Values.{combine_of, face_of, is_drawn, line_height_of, margin_of, shift_of, size_of}
use Rattle.computed.specs.Winners.{said, won}
use Rattle.mode_ways.specs.Ways as ways
use Rattle.mode_ways.specs.Ways.{Way, across, down, left, right, mode_of, orientation_of, plain, style_in}
use Rattle.style_modes.proofs.FreeClaims.{AreFree}
use Rattle.style_modes.proofs.Pages.{carried, none_is, to_the_left, to_the_right}
use Rattle.style_modes.proofs.Won.{combine_not_won, mode_not_won, orientation_not_won, said_carried, value_of, none_won}

-- ---- the used mode and direction by which an element maps its flow

pub used_alike : (way : Way) (dir : Direction) → used_direction (mode_of way) (is_upright (orientation_of way)) dir ≡ dir
used_alike (across orientation combine) dir = refl
used_alike down dir = refl
used_alike (right orientation combine) dir = refl
used_alike (left orientation combine) dir = refl

module _ (way : Way) (list : List Claim) (parent : Style) where
  abbrev own_dir : Direction
  own_dir = computed_direction parent.direction (first_winner list properties.Direction)

  abbrev winners_with : (mode orientation : Option Value) → List (Property × Value)
  winners_with mode orientation =
      winners_by (computed_mode (mode_of way) mode)
      (used_direction (computed_mode (mode_of way) mode) (is_upright (computed_orientation (orientation_of way) orientation)) own_dir) list

  winners_alike : AreFree list → winners_in list (style_in way parent) ≡ winners_by (mode_of way) own_dir list
  winners_alike free =
      ap (λ (mode : Option Value). winners_with mode (first_winner list properties.TextOrientation)) (ap value_of (none_is properties.WritingMode refl list free) ∙ none_won)
      ∙ ap (winners_with None) (ap value_of (none_is properties.TextOrientation refl list free) ∙ none_won)
      ∙ ap (λ (dir : Direction). winners_by (mode_of way) dir list) (used_alike way own_dir)

-- ---- a style by the values that are specified

module _ (font_size : ℤ) (value : Property → Option Value) where
  abbrev size : Property → Size
  size property = computed (size_of font_size) initial.width initial.width (value property)

  abbrev margin : Property → Size
  margin property = computed (margin_of font_size) initial.margin.top initial.margin.top (value property)

  abbrev padding : Property → Size
  padding property = computed (size_of font_size) initial.padding.top initial.padding.top (value property)

  abbrev inset : Property → Size
  inset property = computed (margin_of font_size) initial.insets.top initial.insets.top (value property)

  abbrev border : (style width : Property) → ℤ
  border style width = width_if (is_drawn (value style)) (computed (extent_of font_size) medium medium (value width))

  -- of this mode, orientation and combining; `differs` where the mode is another than the parent's
  abbrev by_values : (parent : Style) (differs : Bool) (mode : WritingMode) (orientation : TextOrientation) (combine : Combine) → Style
  by_values parent differs mode orientation combine = record {
    display = turned differs (computed display_of initial.display initial.display (value properties.Display));
    mode = mode;
    direction = computed direction_of initial.direction parent.direction (value properties.Direction);
    orientation = orientation;
    combine = combine;
    bidi = computed bidi_of initial.bidi initial.bidi (value properties.UnicodeBidi);
    font_size = font_size;
    face = computed face_of initial.face parent.face (value properties.FontFamily);
    line_height = computed (line_height_of font_size) initial.line_height parent.line_height (value properties.LineHeight);
    align = computed align_of initial.align parent.align (value properties.TextAlign);
    shift = computed (shift_of font_size) initial.shift initial.shift (value properties.VerticalAlign);
    width = size properties.Width;
    height = size properties.Height;
    min_width = size properties.MinWidth;
    min_height = size properties.MinHeight;
    max_width = size properties.MaxWidth;
    max_height = size properties.MaxHeight;
    margin = record { top = margin properties.MarginTop; right = margin properties.MarginRight; bottom = margin properties.MarginBottom; left = margin properties.MarginLeft };
    padding = record { top = padding properties.PaddingTop; right = padding properties.PaddingRight; bottom = padding properties.PaddingBottom; left = padding properties.PaddingLeft };
    border = record {
      top = border properties.BorderTopStyle properties.BorderTopWidth;
      right = border properties.BorderRightStyle properties.BorderRightWidth;
      bottom = border properties.BorderBottomStyle properties.BorderBottomWidth;
      left = border properties.BorderLeftStyle properties.BorderLeftWidth;
    };
    relative = computed relative_of initial.relative initial.relative (value properties.Position);
    insets = record { top = inset properties.InsetTop; right = inset properties.InsetRight; bottom = inset properties.InsetBottom; left = inset properties.InsetLeft };
  }

-- a style in a way, by what is specified for the properties of a horizontal flow
abbrev flat : Way → (parent : Style) (font_size : ℤ) → (Property → Option Value) → Style
flat way parent font_size value = style_in way (by_values font_size value parent false HorizontalTb Mixed Never)

module _ (way : Way) (parent : Style) (font_size : ℤ) (value : Property → Option Value) where
  -- and by what is specified for those of its own page, with what won for the three that tie
  abbrev sized_with : (mode orientation combine : Option Value) → Style
  sized_with mode orientation combine =
      by_values font_size value parent (not (same_mode (computed_mode (mode_of way) mode) (mode_of way))) (computed_mode (mode_of way) mode)
      (computed_orientation (orientation_of way) orientation) (computed combine_of initial.combine (ways.combine_of way) (specified properties.TextCombineUpright combine))

with_none : (way : Way) (parent : Style) (font_size : ℤ) (value : Property → Option Value)
    → sized_with way parent font_size value None None None ≡ flat way parent font_size (λ property. value (carried way property))
unfolding carried to_the_left to_the_right
with_none (across orientation combine) parent font_size value = refl
with_none down parent font_size value = refl
with_none (right orientation combine) parent font_size value = refl
with_none (left orientation combine) parent font_size value = refl

font_kept : (way : Way) → carried way properties.FontSize ≡ properties.FontSize
unfolding carried to_the_left to_the_right
font_kept (across orientation combine) = refl
font_kept down = refl
font_kept (right orientation combine) = refl
font_kept (left orientation combine) = refl

module _ (way : Way) (parent : Style) (dir : Direction) (list : List Claim) (free : AreFree list) where
  abbrev won_here : List (Property × Value)
  won_here = winners_by (mode_of way) dir list

  abbrev won_flat : List (Property × Value)
  won_flat = winners_by HorizontalTb dir list

  by_what_won : (font_size : ℤ) → sized (style_in way parent) font_size won_here
      ≡ sized_with way parent font_size (said won_here) (won won_here properties.WritingMode) (won won_here properties.TextOrientation) (won won_here properties.TextCombineUpright)
  unfolding said margin_at padding_at size_at border_at inset_at margins paddings borders insets own_mode own_display own_direction own_orientation own_combine own_bidi own_face own_line_height own_align own_shift own_relative sized
  by_what_won font_size = refl

  sized_flat : (font_size : ℤ) → sized (style_in way parent) font_size won_here ≡ flat way parent font_size (said won_flat)
  sized_flat font_size =
      by_what_won font_size
      ∙ ap (λ (v : Option Value). sized_with way parent font_size (said won_here) v (won won_here properties.TextOrientation) (won won_here properties.TextCombineUpright)) (mode_not_won way dir list free)
      ∙ ap (λ (v : Option Value). sized_with way parent font_size (said won_here) None v (won won_here properties.TextCombineUpright)) (orientation_not_won way dir list free)
      ∙ ap (sized_with way parent font_size (said won_here) None None) (combine_not_won way dir list free)
      ∙ with_none way parent font_size (said won_here)
      ∙ ap (flat way parent font_size) (fun_ext (said_carried way dir list free))

  font_alike : own_font_size (style_in way parent) won_here ≡ own_font_size parent won_flat
  unfolding own_font_size
  font_alike =
      ap (λ (v : Option Value). computed (font_size_of parent.font_size) initial.font_size parent.font_size v)
      (ap (said won_here) (sym (font_kept way)) ∙ said_carried way dir list free properties.FontSize)

-- ---- the style of an element

style_flat : (way : Way) (list : List Claim) (parent : Style) (free : AreFree list)
    → style_of (style_in way parent) (winners_in list (style_in way parent))
    ≡ flat way parent (own_font_size parent (winners_by HorizontalTb (own_dir way list parent) list)) (said (winners_by HorizontalTb (own_dir way list parent) list))
style_flat way list parent free =
    let dir = own_dir way list parent in
    let here = winners_by (mode_of way) dir list in
    ap (style_of (style_in way parent)) (winners_alike way list parent free)
    ∙ ap (λ (font_size : ℤ). sized (style_in way parent) font_size here) (font_alike way parent dir list free)
    ∙ sized_flat way parent dir list free (own_font_size parent (winners_by HorizontalTb dir list))

pub style_alike : (way : Way) (list : List Claim) (parent : Style) (free : AreFree list)
    → style_of (style_in way parent) (winners_in list (style_in way parent)) ≡ style_in way (style_of (style_in plain parent) (winners_in list (style_in plain parent)))
style_alike way list parent free = style_flat way list parent free ∙ sym (ap (style_in way) (style_flat plain list parent free))
