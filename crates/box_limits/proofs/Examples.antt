-- A small document whose boxes are past the limit or within it, by the lines of their nodes and by box_gen's definitions.
use Rattle.std.specs.Prelude.{◌≡◌, refl, true, false, List, [], ◌∷◌, Some, None, slice_get}
use Rattle.css_types.specs.declared.value.Declaration.{Declaration}
use Rattle.css_types.specs.declared.property.Property.TheVariants as properties
use Rattle.css_types.specs.declared.keyword.Keyword.TheVariants as keywords
use Rattle.css_types.specs.declared.value.Value.TheVariants as values
use Rattle.style_types.specs.Initial.{initial}
use Rattle.html_tokens.specs.declared.tag.Tag.TheVariants as tags
use Rattle.html_tokens.specs.Tag as tag_names
use Rattle.css_sheet.specs.Specificity.{sum}
use Rattle.css_sheet.specs.Default.{default_rules}
use Rattle.dom_store.specs.State.{element, State, Entry, line, line_to, tree_to}
use Rattle.cascade.specs.Matching.{matches_from, some, each, tails}
use Rattle.cascade.specs.Claims.{is_less, stated, claims_of_rules}
use Rattle.cascade.specs.Winners.{greatest_from}
use Rattle.computed.specs.Sides.{margin_at, padding_at, size_at, border_at, margins, paddings, borders}
use Rattle.computed.specs.Step.{own_font_size, own_mode, own_display, own_direction, own_orientation, own_combine, own_bidi, own_face, own_line_height, own_align, own_shift, sized}
use Rattle.computed.specs.Winners.{won, said}
use Rattle.style_tree.specs.Styling.{styled_document, styled_in}
use Rattle.box_gen.specs.Orthogonal.{past, root_past}
use Rattle.box_limits.specs.Lines.{is_past, place_on}

-- `body`, and seven `div`s one in the other, each of the other mode, with a `span` between the first two: an inline box doesn't turn
vertical : List Declaration
vertical = record { property = properties.WritingMode; value = values.Keyword keywords.VerticalRl; important = false; place = 0 } ∷ []

horizontal : List Declaration
horizontal = record { property = properties.WritingMode; value = values.Keyword keywords.HorizontalTb; important = false; place = 0 } ∷ []

unfoldable turned : List Entry
turned = (record { parent = None; children = 1 ∷ []; what = element tags.Html None [] None [] }) ∷ (record { parent = Some 0; children = 2 ∷ []; what = element tags.Body None [] None [] })
    ∷ (record { parent = Some 1; children = 3 ∷ []; what = element tags.Div None [] None vertical }) ∷ (record { parent = Some 2; children = 4 ∷ []; what = element tags.Span None [] None [] })
    ∷ (record { parent = Some 3; children = 5 ∷ []; what = element tags.Div None [] None horizontal }) ∷ (record { parent = Some 4; children = 6 ∷ []; what = element tags.Div None [] None vertical })
    ∷ (record { parent = Some 5; children = 7 ∷ []; what = element tags.Div None [] None horizontal }) ∷ (record { parent = Some 6; children = 8 ∷ []; what = element tags.Div None [] None vertical })
    ∷ (record { parent = Some 7; children = 9 ∷ []; what = element tags.Div None [] None horizontal }) ∷ (record { parent = Some 8; children = []; what = element tags.Div None [] None vertical }) ∷ []

unfoldable with_turns : State
with_turns = record { node_at = λ n. slice_get turned n; next = 10 }

one_past : root_past (styled_document [] with_turns) ≡ 9 ∷ []
unfolding with_turns turned vertical horizontal past styled_in line_to tree_to matches_from some each tails tag_names.tags is_less stated claims_of_rules greatest_from sum default_rules initial won said margin_at padding_at size_at border_at margins paddings borders own_font_size own_mode own_display own_direction own_orientation own_combine own_bidi own_face own_line_height own_align own_shift sized
one_past = refl

seven_are_past : is_past [] (line with_turns 9) ≡ true
unfolding with_turns turned vertical horizontal place_on line_to matches_from some each tails tag_names.tags is_less stated claims_of_rules greatest_from sum default_rules initial won said margin_at padding_at size_at border_at margins paddings borders own_font_size own_mode own_display own_direction own_orientation own_combine own_bidi own_face own_line_height own_align own_shift sized
seven_are_past = refl

six_are_not : is_past [] (line with_turns 8) ≡ false
unfolding with_turns turned vertical horizontal place_on line_to matches_from some each tails tag_names.tags is_less stated claims_of_rules greatest_from sum default_rules initial won said margin_at padding_at size_at border_at margins paddings borders own_font_size own_mode own_display own_direction own_orientation own_combine own_bidi own_face own_line_height own_align own_shift sized
six_are_not = refl
