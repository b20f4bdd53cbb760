-- A document in each way, worked by hand: <div dir="rtl" style="inline-size: 20px; block-size: 10px; margin-inline: 1px 2px; margin-block: 3px 4px">.
use Rattle.std.specs.Prelude.{◌≡◌, refl, false, List, [], ◌∷◌, Option, Some, None, pos, ℕ, slice_get}
use Rattle.wm_modes.specs.declared.mode.Direction.TheVariants as directions
use Rattle.wm_modes.specs.declared.mode.WritingMode.{WritingMode}
use Rattle.wm_modes.specs.declared.mode.WritingMode.TheVariants as modes
use Rattle.html_tokens.specs.declared.tag.Tag.TheVariants as tags
use Rattle.html_tokens.specs.Tag as tag_names
use Rattle.css_types.specs.declared.property.Property.{Property}
use Rattle.css_types.specs.declared.property.Property.TheVariants as properties
use Rattle.css_types.specs.declared.value.Declaration.{Declaration}
use Rattle.css_types.specs.declared.value.Value.TheVariants as values
use Rattle.css_sheet.specs.Default.{default_rules}
use Rattle.css_sheet.specs.Specificity.{sum}
use Rattle.style_types.specs.declared.style.Combine.TheVariants.{Never}
use Rattle.style_types.specs.declared.style.SideSizes.{SideSizes}
use Rattle.style_types.specs.declared.style.Size.{Size}
use Rattle.style_types.specs.declared.style.Size.TheVariants as sizes
use Rattle.style_types.specs.declared.style.TextOrientation.{TextOrientation}
use Rattle.style_types.specs.declared.style.TextOrientation.TheVariants as orientations
use Rattle.style_types.specs.Initial.{initial}
use Rattle.style_types.specs.Tree as styled
use Rattle.style_types.specs.Tree.{Nodes}
use Rattle.dom_store.specs.State.{Entry, State, element, line_to, tree_to}
use Rattle.cascade.specs.Claims.{claims_of_rules, is_less, stated}
use Rattle.cascade.specs.Matching.{each, matches_from, some, tails}
use Rattle.cascade.specs.Winners.{greatest_from}
use Rattle.computed.specs.Sides.{border_at, borders, inset_at, insets, margin_at, margins, padding_at, paddings, size_at}
use Rattle.computed.specs.Step.{own_align, own_bidi, own_combine, own_direction, own_display, own_face, own_font_size, own_line_height, own_mode, own_orientation, own_relative, own_shift, sized}
use Rattle.computed.specs.Winners.{said, won}
use Rattle.style_tree.specs.Styling.{styled_in}
use Rattle.mode_ways.specs.Ways.{down, left, plain}
use Rattle.style_modes.specs.Turned.{turned_document}

abbrev px : Property → ℕ → Declaration
px property pixels = record { property = property; value = values.Px (pos pixels); important = false; place = 0 }

unfoldable entries : List Entry
entries =
    record { parent = None; children = 1 ∷ []; what = element tags.Html None [] None [] }
    ∷ record { parent = Some 0; children = 2 ∷ []; what = element tags.Body None [] None [] }
    ∷ record {
      parent = Some 1;
      children = [];
      what = element tags.Div None [] (Some directions.Rtl)
          (px properties.InlineSize 2000 ∷ px properties.BlockSize 1000 ∷ px properties.MarginInlineStart 100 ∷ px properties.MarginInlineEnd 200 ∷ px properties.MarginBlockStart 300 ∷ px properties.MarginBlockEnd 400 ∷ []);
    }
    ∷ []

unfoldable document : State
document = record { node_at = λ number. slice_get entries number; next = 3 }

-- what a turn changes of the style of the third node
record Turns : Type 0 where
  mode : WritingMode
  orientation : TextOrientation
  width : Size
  height : Size
  margin : SideSizes

abbrev turns_of : Nodes → Option Turns
turns_of (styled.node html html_kind html_style (styled.node body body_kind body_style (styled.node number kind style inner next) after) behind) =
    Some (record { mode = style.mode; orientation = style.orientation; width = style.width; height = style.height; margin = style.margin })
turns_of other = None

abbrev units : ℕ → Size
units n = sizes.Length (pos n)

flow : turns_of (turned_document plain [] document)
    ≡ Some (record { mode = modes.HorizontalTb; orientation = orientations.Mixed; width = units 1280; height = units 640; margin = record { top = units 192; right = units 64; bottom = units 256; left = units 128 } })
unfolding document entries styled_in line_to tree_to matches_from some each tails tag_names.tags is_less stated claims_of_rules greatest_from sum default_rules initial won said margin_at padding_at size_at border_at inset_at margins paddings borders insets own_font_size own_mode own_display own_direction own_orientation own_combine own_bidi own_face own_line_height own_align own_shift own_relative sized
flow = refl

vertical_rl : turns_of (turned_document down [] document)
    ≡ Some (record { mode = modes.VerticalRl; orientation = orientations.Sideways; width = units 640; height = units 1280; margin = record { top = units 128; right = units 192; bottom = units 64; left = units 256 } })
unfolding document entries styled_in line_to tree_to matches_from some each tails tag_names.tags is_less stated claims_of_rules greatest_from sum default_rules initial won said margin_at padding_at size_at border_at inset_at margins paddings borders insets own_font_size own_mode own_display own_direction own_orientation own_combine own_bidi own_face own_line_height own_align own_shift own_relative sized
vertical_rl = refl

sideways_lr : turns_of (turned_document (left orientations.Sideways Never) [] document)
    ≡ Some (record { mode = modes.SidewaysLr; orientation = orientations.Sideways; width = units 640; height = units 1280; margin = record { top = units 64; right = units 256; bottom = units 128; left = units 192 } })
unfolding document entries styled_in line_to tree_to matches_from some each tails tag_names.tags is_less stated claims_of_rules greatest_from sum default_rules initial won said margin_at padding_at size_at border_at inset_at margins paddings borders insets own_font_size own_mode own_display own_direction own_orientation own_combine own_bidi own_face own_line_height own_align own_shift own_relative sized
sideways_lr = refl
