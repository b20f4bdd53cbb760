-- Edits of a small document, with the elements in their scopes and those that they touch, by computation. An independent implementation gives
-- the same.
use Rattle.std.specs.Prelude.{◌≡◌, refl, ℕ, nat_eq, true, false, Bool, ◌&&◌, List, [], ◌∷◌, map, Some, None, slice_get}
use Rattle.std.specs.List.{list_all, list_any}
use Rattle.css_types.specs.declared.value.Declaration.{Declaration}
use Rattle.css_types.specs.declared.property.Property as property
use Rattle.css_types.specs.declared.property.Property.TheVariants as properties
use Rattle.css_types.specs.declared.keyword.Keyword as keyword
use Rattle.css_types.specs.declared.keyword.Keyword.TheVariants as keywords
use Rattle.css_types.specs.declared.value.Value.TheVariants as values
use Rattle.style_types.specs.Initial.{initial}
use Rattle.html_tokens.specs.declared.tag.Tag as tag
use Rattle.html_tokens.specs.declared.tag.Tag.TheVariants as tags
use Rattle.html_tokens.specs.Tag as tag_names
use Rattle.html_read.specs.Values as html
use Rattle.css_sheet.specs.Specificity.{sum}
use Rattle.css_sheet.specs.Default.{default_rules}
use Rattle.dom_store.specs.State.{What, element, text, Entry, line_to, tree_to}
use Rattle.dom_store.specs.Building.{tops_from}
use Rattle.dom_store.specs.Opening.{children_from}
use Rattle.dom_store.specs.Standing.{ancestors_to, below_levels}
use Rattle.dom_store.specs.Edits as tree
use Rattle.dom_store.specs.Edits.{set_text, set_style, set_class, insert, remove, move_to}
use Rattle.dom_store.specs.Exact.{exact_text, take_nodes, restore, taken}
use Rattle.cascade.specs.Matching.{matches_from, some, each, tails}
use Rattle.cascade.specs.Claims.{is_less, stated, claims_of_rules}
use Rattle.cascade.specs.Winners.{greatest_from}
use Rattle.computed.specs.Sides.{margin_at, padding_at, size_at, border_at, margins, paddings, borders}
use Rattle.computed.specs.Step.{own_font_size, own_mode, own_display, own_direction, own_orientation, own_combine, own_bidi, own_face, own_line_height, own_align, own_shift, sized}
use Rattle.computed.specs.Winners.{won, said}
use Rattle.style_tree.specs.Styling.{styled_in}
use Rattle.box_gen.specs.Boxes.{closed, content, is_blank, join, opened_again, runs, stacked}
use Rattle.box_limits.specs.Lines.{place_on}
use Rattle.edits.specs.Change.{Change, of_tree, retire, rule}
use Rattle.edits.specs.Exact.{ExactChange, exact_tree, put_rules}
use Rattle.edits.specs.State as whole
use Rattle.edit_scope.specs.Boxes.{anonymous_among, box_of, own_boxes}
use Rattle.edit_scope.specs.Exactly.{exact_reached, exact_scope}
use Rattle.edit_scope.specs.Scope.{holder_in, reached, scope}

abbrev all_of : (one other : List ℕ) → Bool
all_of one other = list_all (λ n. list_any (nat_eq n) other) one

abbrev same_set : (one other : List ℕ) → Bool
same_set one other = all_of one other && all_of other one

abbrev IsScope : whole.State → Change → (elements touched : List ℕ) → Type 0
IsScope state change elements touched = (same_set (scope state change) elements ≡ true) × (same_set (reached state change) touched ≡ true)

abbrev declared : property.Property → keyword.Keyword → List Declaration
declared of to = record { property = of; value = values.Keyword to; important = false; place = 0 } ∷ []

abbrev plain : tag.Tag → List Declaration → What
plain of own = element of None [] None own

abbrev read : tag.Tag → html.Kind
read of = html.element of (record { id = None; classes = []; dir = None; style = None })

-- <body><div><span>a<i>b</i></span><p style="display:inline-block">c</p></div><p>d</p></body>
unfoldable entries : List Entry
entries = (record { parent = None; children = 1 ∷ []; what = plain tags.Html [] }) ∷ (record { parent = Some 0; children = 2 ∷ 9 ∷ []; what = plain tags.Body [] })
    ∷ (record { parent = Some 1; children = 3 ∷ 7 ∷ []; what = plain tags.Div [] }) ∷ (record { parent = Some 2; children = 4 ∷ 5 ∷ []; what = plain tags.Span [] })
    ∷ (record { parent = Some 3; children = []; what = text (97 ∷ []) }) ∷ (record { parent = Some 3; children = 6 ∷ []; what = plain tags.I [] })
    ∷ (record { parent = Some 5; children = []; what = text (98 ∷ []) }) ∷ (record { parent = Some 2; children = 8 ∷ []; what = plain tags.P (declared properties.Display keywords.InlineBlock) })
    ∷ (record { parent = Some 7; children = []; what = text (99 ∷ []) }) ∷ (record { parent = Some 1; children = 10 ∷ []; what = plain tags.P [] })
    ∷ (record { parent = Some 9; children = []; what = text (100 ∷ []) }) ∷ []

unfoldable small : whole.State
small = record { tree = record { node_at = λ n. slice_get entries n; next = 11 }; rules = []; faces = [] }

-- the holder of the text, which is past two inline boxes
a_text_in_inline_boxes : IsScope small (of_tree (set_text 6 (120 ∷ []))) (2 ∷ []) (0 ∷ 1 ∷ 2 ∷ [])
unfolding small entries matches_from some each tails tag_names.tags is_less stated claims_of_rules greatest_from sum default_rules initial won said margin_at padding_at size_at border_at margins paddings borders own_font_size own_mode own_display own_direction own_orientation own_combine own_bidi own_face own_line_height own_align own_shift sized place_on line_to holder_in below_levels ancestors_to tops_from children_from
a_text_in_inline_boxes = (refl, refl)

-- an atom is a holder
a_text_in_an_atom : IsScope small (of_tree (set_text 8 (120 ∷ []))) (7 ∷ []) (0 ∷ 1 ∷ 2 ∷ 7 ∷ [])
unfolding small entries matches_from some each tails tag_names.tags is_less stated claims_of_rules greatest_from sum default_rules initial won said margin_at padding_at size_at border_at margins paddings borders own_font_size own_mode own_display own_direction own_orientation own_combine own_bidi own_face own_line_height own_align own_shift sized place_on line_to holder_in below_levels ancestors_to tops_from children_from
a_text_in_an_atom = (refl, refl)

-- the element, and the holder of its parent
an_inline_box_is_styled : IsScope small (of_tree (set_style 5 (declared properties.WritingMode keywords.VerticalRl))) (2 ∷ 5 ∷ []) (0 ∷ 1 ∷ 2 ∷ 3 ∷ 5 ∷ [])
unfolding small entries matches_from some each tails tag_names.tags is_less stated claims_of_rules greatest_from sum default_rules initial won said margin_at padding_at size_at border_at margins paddings borders own_font_size own_mode own_display own_direction own_orientation own_combine own_bidi own_face own_line_height own_align own_shift sized place_on line_to holder_in below_levels ancestors_to tops_from children_from
an_inline_box_is_styled = (refl, refl)

-- displays are those after the edit
an_inline_box_becomes_a_block : IsScope small (of_tree (set_style 3 (declared properties.Display keywords.Block))) (2 ∷ 3 ∷ 5 ∷ []) (0 ∷ 1 ∷ 2 ∷ 3 ∷ 5 ∷ [])
unfolding small entries matches_from some each tails tag_names.tags is_less stated claims_of_rules greatest_from sum default_rules initial won said margin_at padding_at size_at border_at margins paddings borders own_font_size own_mode own_display own_direction own_orientation own_combine own_bidi own_face own_line_height own_align own_shift sized place_on line_to holder_in below_levels ancestors_to tops_from children_from
an_inline_box_becomes_a_block = (refl, refl)

a_block_is_hidden : IsScope small (of_tree (set_style 2 (declared properties.Display keywords.None))) (1 ∷ 2 ∷ 3 ∷ 5 ∷ 7 ∷ []) (0 ∷ 1 ∷ 2 ∷ 3 ∷ 5 ∷ 7 ∷ [])
unfolding small entries matches_from some each tails tag_names.tags is_less stated claims_of_rules greatest_from sum default_rules initial won said margin_at padding_at size_at border_at margins paddings borders own_font_size own_mode own_display own_direction own_orientation own_combine own_bidi own_face own_line_height own_align own_shift sized place_on line_to holder_in below_levels ancestors_to tops_from children_from
a_block_is_hidden = (refl, refl)

a_class_of_an_atom : IsScope small (of_tree (set_class 7 ((119 ∷ []) ∷ []))) (2 ∷ 7 ∷ []) (0 ∷ 1 ∷ 2 ∷ 7 ∷ [])
unfolding small entries matches_from some each tails tag_names.tags is_less stated claims_of_rules greatest_from sum default_rules initial won said margin_at padding_at size_at border_at margins paddings borders own_font_size own_mode own_display own_direction own_orientation own_combine own_bidi own_face own_line_height own_align own_shift sized place_on line_to holder_in below_levels ancestors_to tops_from children_from
a_class_of_an_atom = (refl, refl)

-- every element
a_class_of_body : IsScope small (of_tree (set_class 1 ((119 ∷ []) ∷ []))) (0 ∷ 1 ∷ 2 ∷ 3 ∷ 5 ∷ 7 ∷ 9 ∷ []) (0 ∷ 1 ∷ 2 ∷ 3 ∷ 5 ∷ 7 ∷ 9 ∷ [])
unfolding small entries matches_from some each tails tag_names.tags is_less stated claims_of_rules greatest_from sum default_rules initial won said margin_at padding_at size_at border_at margins paddings borders own_font_size own_mode own_display own_direction own_orientation own_combine own_bidi own_face own_line_height own_align own_shift sized place_on line_to holder_in below_levels ancestors_to tops_from children_from
a_class_of_body = (refl, refl)

-- they come under the numbers 11 to 15
nodes_come_into_an_inline_box : IsScope small (of_tree (insert 5 0 ((record { parent = None; kind = read tags.B }) ∷ (record { parent = Some 0; kind = html.text (120 ∷ []) }) ∷ (record { parent = Some 0; kind = read tags.I }) ∷ (record { parent = Some 2; kind = html.text (121 ∷ []) }) ∷ (record { parent = None; kind = html.text (122 ∷ []) }) ∷ []) ([] ∷ [] ∷ [] ∷ [] ∷ [] ∷ []))) (2 ∷ 11 ∷ 13 ∷ []) (0 ∷ 1 ∷ 2 ∷ 3 ∷ 5 ∷ 11 ∷ 13 ∷ [])
unfolding small entries matches_from some each tails tag_names.tags is_less stated claims_of_rules greatest_from sum default_rules initial won said margin_at padding_at size_at border_at margins paddings borders own_font_size own_mode own_display own_direction own_orientation own_combine own_bidi own_face own_line_height own_align own_shift sized place_on line_to holder_in below_levels ancestors_to tops_from children_from
nodes_come_into_an_inline_box = (refl, refl)

nodes_come_into_an_atom : IsScope small (of_tree (insert 7 1 ((record { parent = None; kind = read tags.I }) ∷ []) ([] ∷ []))) (7 ∷ 11 ∷ []) (0 ∷ 1 ∷ 2 ∷ 7 ∷ 11 ∷ [])
unfolding small entries matches_from some each tails tag_names.tags is_less stated claims_of_rules greatest_from sum default_rules initial won said margin_at padding_at size_at border_at margins paddings borders own_font_size own_mode own_display own_direction own_orientation own_combine own_bidi own_face own_line_height own_align own_shift sized place_on line_to holder_in below_levels ancestors_to tops_from children_from
nodes_come_into_an_atom = (refl, refl)

an_inline_box_goes : IsScope small (of_tree (remove 3)) (2 ∷ []) (0 ∷ 1 ∷ 2 ∷ [])
unfolding small entries matches_from some each tails tag_names.tags is_less stated claims_of_rules greatest_from sum default_rules initial won said margin_at padding_at size_at border_at margins paddings borders own_font_size own_mode own_display own_direction own_orientation own_combine own_bidi own_face own_line_height own_align own_shift sized place_on line_to holder_in below_levels ancestors_to tops_from children_from
an_inline_box_goes = (refl, refl)

a_text_goes : IsScope small (of_tree (remove 10)) (9 ∷ []) (0 ∷ 1 ∷ 9 ∷ [])
unfolding small entries matches_from some each tails tag_names.tags is_less stated claims_of_rules greatest_from sum default_rules initial won said margin_at padding_at size_at border_at margins paddings borders own_font_size own_mode own_display own_direction own_orientation own_combine own_bidi own_face own_line_height own_align own_shift sized place_on line_to holder_in below_levels ancestors_to tops_from children_from
a_text_goes = (refl, refl)

-- the holders of both parents, and the atom
an_atom_is_moved : IsScope small (of_tree (move_to 7 9 0)) (2 ∷ 7 ∷ 9 ∷ []) (0 ∷ 1 ∷ 2 ∷ 7 ∷ 9 ∷ [])
unfolding small entries matches_from some each tails tag_names.tags is_less stated claims_of_rules greatest_from sum default_rules initial won said margin_at padding_at size_at border_at margins paddings borders own_font_size own_mode own_display own_direction own_orientation own_combine own_bidi own_face own_line_height own_align own_shift sized place_on line_to holder_in below_levels ancestors_to tops_from children_from
an_atom_is_moved = (refl, refl)

-- one holder, twice
a_text_is_moved : IsScope small (of_tree (move_to 4 5 0)) (2 ∷ []) (0 ∷ 1 ∷ 2 ∷ [])
unfolding small entries matches_from some each tails tag_names.tags is_less stated claims_of_rules greatest_from sum default_rules initial won said margin_at padding_at size_at border_at margins paddings borders own_font_size own_mode own_display own_direction own_orientation own_combine own_bidi own_face own_line_height own_align own_shift sized place_on line_to holder_in below_levels ancestors_to tops_from children_from
a_text_is_moved = (refl, refl)

an_inline_box_is_moved : IsScope small (of_tree (move_to 5 7 0)) (2 ∷ 5 ∷ 7 ∷ []) (0 ∷ 1 ∷ 2 ∷ 5 ∷ 7 ∷ [])
unfolding small entries matches_from some each tails tag_names.tags is_less stated claims_of_rules greatest_from sum default_rules initial won said margin_at padding_at size_at border_at margins paddings borders own_font_size own_mode own_display own_direction own_orientation own_combine own_bidi own_face own_line_height own_align own_shift sized place_on line_to holder_in below_levels ancestors_to tops_from children_from
an_inline_box_is_moved = (refl, refl)

-- an edit of rules or of faces has every element in its scope
rules_come : IsScope small (rule []) (0 ∷ 1 ∷ 2 ∷ 3 ∷ 5 ∷ 7 ∷ 9 ∷ []) (0 ∷ 1 ∷ 2 ∷ 3 ∷ 5 ∷ 7 ∷ 9 ∷ [])
unfolding small entries below_levels ancestors_to
rules_come = (refl, refl)

a_face_goes : IsScope small (retire 1) (0 ∷ 1 ∷ 2 ∷ 3 ∷ 5 ∷ 7 ∷ 9 ∷ []) (0 ∷ 1 ∷ 2 ∷ 3 ∷ 5 ∷ 7 ∷ 9 ∷ [])
unfolding small entries below_levels ancestors_to
a_face_goes = (refl, refl)

-- ---- exact edits

abbrev IsExactScope : whole.State → ExactChange → (elements touched : List ℕ) → Type 0
IsExactScope state edit elements touched = (same_set (exact_scope state edit) elements ≡ true) × (same_set (exact_reached state edit) touched ≡ true)

-- as its namesake
a_text_is_set_exactly : IsExactScope small (exact_tree (exact_text 8 (120 ∷ []))) (7 ∷ []) (0 ∷ 1 ∷ 2 ∷ 7 ∷ [])
unfolding small entries matches_from some each tails tag_names.tags is_less stated claims_of_rules greatest_from sum default_rules initial won said margin_at padding_at size_at border_at margins paddings borders own_font_size own_mode own_display own_direction own_orientation own_combine own_bidi own_face own_line_height own_align own_shift sized place_on line_to holder_in below_levels ancestors_to
a_text_is_set_exactly = (refl, refl)

-- the holder of the parent
nodes_are_taken : IsExactScope small (exact_tree (take_nodes 3 (4 ∷ 5 ∷ []))) (2 ∷ []) (0 ∷ 1 ∷ 2 ∷ [])
unfolding small entries matches_from some each tails tag_names.tags is_less stated claims_of_rules greatest_from sum default_rules initial won said margin_at padding_at size_at border_at margins paddings borders own_font_size own_mode own_display own_direction own_orientation own_combine own_bidi own_face own_line_height own_align own_shift sized place_on line_to holder_in below_levels ancestors_to
nodes_are_taken = (refl, refl)

unfoldable without_span : whole.State
without_span = record { tree = taken small.tree 2 (3 ∷ []); rules = []; faces = [] }

-- the holder of the parent, and the elements that stand again
nodes_are_restored : IsExactScope without_span (exact_tree (restore 2 0 ((record { number = 3; parent = 2; what = plain tags.Span [] }) ∷ (record { number = 4; parent = 3; what = text (97 ∷ []) }) ∷ (record { number = 5; parent = 3; what = plain tags.I [] }) ∷ (record { number = 6; parent = 5; what = text (98 ∷ []) }) ∷ []))) (2 ∷ 3 ∷ 5 ∷ []) (0 ∷ 1 ∷ 2 ∷ 3 ∷ 5 ∷ [])
unfolding small entries matches_from some each tails tag_names.tags is_less stated claims_of_rules greatest_from sum default_rules initial won said margin_at padding_at size_at border_at margins paddings borders own_font_size own_mode own_display own_direction own_orientation own_combine own_bidi own_face own_line_height own_align own_shift sized place_on line_to holder_in below_levels ancestors_to without_span
nodes_are_restored = (refl, refl)

-- rules that are put have every element in their scope
rules_are_put : IsExactScope small (put_rules 0 []) (0 ∷ 1 ∷ 2 ∷ 3 ∷ 5 ∷ 7 ∷ 9 ∷ []) (0 ∷ 1 ∷ 2 ∷ 3 ∷ 5 ∷ 7 ∷ 9 ∷ [])
unfolding small entries below_levels ancestors_to
rules_are_put = (refl, refl)

-- ---- content

-- an inline-block of which the text is edited is in a block that has the content that it had
outer_content_stays : own_boxes (box_of [] (tree.after small.tree (set_text 8 (120 ∷ []))) 61 2) ≡ own_boxes (box_of [] small.tree 61 2)
unfolding small entries matches_from some each tails tag_names.tags is_less stated claims_of_rules greatest_from sum default_rules initial won said margin_at padding_at size_at border_at margins paddings borders own_font_size own_mode own_display own_direction own_orientation own_combine own_bidi own_face own_line_height own_align own_shift sized place_on line_to holder_in below_levels ancestors_to tops_from children_from tree_to styled_in content runs join anonymous_among stacked is_blank closed opened_again
outer_content_stays = refl

-- beside a block what is inline is in an anonymous block, which is an own box of the element
anonymous_blocks_are_own : map (λ shell. shell.name) (own_boxes (box_of [] (tree.after small.tree (move_to 10 1 0)) 62 1)) ≡ (record { node = 1; ordinal = 0 }) ∷ (record { node = 1; ordinal = 1 }) ∷ []
unfolding small entries matches_from some each tails tag_names.tags is_less stated claims_of_rules greatest_from sum default_rules initial won said margin_at padding_at size_at border_at margins paddings borders own_font_size own_mode own_display own_direction own_orientation own_combine own_bidi own_face own_line_height own_align own_shift sized place_on line_to holder_in below_levels ancestors_to tops_from children_from tree_to styled_in content runs join anonymous_among stacked is_blank closed opened_again
anonymous_blocks_are_own = refl
