-- Edits of small documents, as an independent implementation has them.
use Rattle.std.specs.Prelude.{◌≡◌, refl, ℕ, zero, suc, ◌++◌, false, List, [], ◌∷◌, map, get_or, Option, Some, None}
use Rattle.css_types.specs.declared.property.Property.TheVariants as properties
use Rattle.css_types.specs.declared.keyword.Keyword.TheVariants as keywords
use Rattle.css_types.specs.declared.value.Value.TheVariants as values
use Rattle.html_tokens.specs.declared.tag.Tag.TheVariants as tags
use Rattle.html_read.specs.Values as html
use Rattle.dom_store.specs.declared.error.EditError.{EditError}
use Rattle.dom_store.specs.declared.error.EditError.TheVariants.{NoNode, IsRoot, NotText, NotElement, Inside, BadIndex}
use Rattle.dom_store.specs.State.{Entry, State, element, text}
use Rattle.dom_store.specs.Opening.{children_from, depths_from}
use Rattle.dom_store.specs.Standing.{ancestors_to, below_levels, count_below}
use Rattle.dom_store.specs.Edits.{set_text, set_style, set_class, insert, remove, move_to}
use Rattle.dom_store.specs.Edited.{Outcome, accepted, refused, edited}

-- an outcome whose state can be compared: the nodes below the next number, that number, and the concerned elements
data Told : Type 0 where
  took : List (Option Entry) → ℕ → List ℕ → Told
  no : EditError → Told

unfoldable numbers : ℕ → List ℕ
numbers zero = []
numbers (suc n) = numbers n ++ n ∷ []

abbrev told : Outcome → Told
told (accepted next elements) = took (map next.node_at (numbers next.next)) next.next elements
told (refused error) = no error

abbrev of : List (Option Entry) → ℕ → State
of entries next = record { node_at = λ n. get_or entries n None; next = next }

a_text : told (edited (of ((Some (record { parent = None; children = (1 ∷ []); what = element tags.Html None [] None [] })) ∷ (Some (record { parent = (Some 0); children = (2 ∷ 3 ∷ []); what = element tags.Body None ((97 ∷ []) ∷ []) None [] })) ∷ (Some (record { parent = (Some 1); children = []; what = text (97 ∷ []) })) ∷ (Some (record { parent = (Some 1); children = (4 ∷ []); what = element tags.I None [] None [] })) ∷ (Some (record { parent = (Some 3); children = []; what = text (97 ∷ []) })) ∷ []) 5) (set_text 2 (215 ∷ 144 ∷ []))) ≡ took ((Some (record { parent = None; children = (1 ∷ []); what = element tags.Html None [] None [] })) ∷ (Some (record { parent = (Some 0); children = (2 ∷ 3 ∷ []); what = element tags.Body None ((97 ∷ []) ∷ []) None [] })) ∷ (Some (record { parent = (Some 1); children = []; what = text (215 ∷ 144 ∷ []) })) ∷ (Some (record { parent = (Some 1); children = (4 ∷ []); what = element tags.I None [] None [] })) ∷ (Some (record { parent = (Some 3); children = []; what = text (97 ∷ []) })) ∷ []) 5 (1 ∷ [])
unfolding numbers children_from depths_from ancestors_to below_levels count_below
a_text = refl

a_style : told (edited (of ((Some (record { parent = None; children = (1 ∷ []); what = element tags.Html None [] None [] })) ∷ (Some (record { parent = (Some 0); children = (2 ∷ 3 ∷ []); what = element tags.Body None [] None [] })) ∷ (Some (record { parent = (Some 1); children = []; what = text (32 ∷ []) })) ∷ (Some (record { parent = (Some 1); children = (4 ∷ []); what = element tags.Span None [] None [] })) ∷ (Some (record { parent = (Some 3); children = []; what = text [] })) ∷ []) 5) (set_style 1 ((record { property = properties.WritingMode; value = values.Keyword keywords.VerticalRl; important = false; place = 0 }) ∷ []))) ≡ took ((Some (record { parent = None; children = (1 ∷ []); what = element tags.Html None [] None [] })) ∷ (Some (record { parent = (Some 0); children = (2 ∷ 3 ∷ []); what = element tags.Body None [] None ((record { property = properties.WritingMode; value = values.Keyword keywords.VerticalRl; important = false; place = 0 }) ∷ []) })) ∷ (Some (record { parent = (Some 1); children = []; what = text (32 ∷ []) })) ∷ (Some (record { parent = (Some 1); children = (4 ∷ []); what = element tags.Span None [] None [] })) ∷ (Some (record { parent = (Some 3); children = []; what = text [] })) ∷ []) 5 (1 ∷ [])
unfolding numbers children_from depths_from ancestors_to below_levels count_below
a_style = refl

a_class : told (edited (of ((Some (record { parent = None; children = (1 ∷ []); what = element tags.Html None [] None [] })) ∷ (Some (record { parent = (Some 0); children = (2 ∷ 3 ∷ []); what = element tags.Body None [] None [] })) ∷ (Some (record { parent = (Some 1); children = []; what = text (97 ∷ []) })) ∷ (Some (record { parent = (Some 1); children = (4 ∷ []); what = element tags.I None [] None [] })) ∷ (Some (record { parent = (Some 3); children = []; what = text (97 ∷ []) })) ∷ []) 5) (set_class 1 ((97 ∷ []) ∷ []))) ≡ took ((Some (record { parent = None; children = (1 ∷ []); what = element tags.Html None [] None [] })) ∷ (Some (record { parent = (Some 0); children = (2 ∷ 3 ∷ []); what = element tags.Body None ((97 ∷ []) ∷ []) None [] })) ∷ (Some (record { parent = (Some 1); children = []; what = text (97 ∷ []) })) ∷ (Some (record { parent = (Some 1); children = (4 ∷ []); what = element tags.I None [] None [] })) ∷ (Some (record { parent = (Some 3); children = []; what = text (97 ∷ []) })) ∷ []) 5 (1 ∷ [])
unfolding numbers children_from depths_from ancestors_to below_levels count_below
a_class = refl

an_insertion : told (edited (of ((Some (record { parent = None; children = (1 ∷ []); what = element tags.Html None [] None [] })) ∷ (Some (record { parent = (Some 0); children = (3 ∷ 2 ∷ []); what = element tags.Body None [] None [] })) ∷ (Some (record { parent = (Some 1); children = []; what = text (32 ∷ []) })) ∷ (Some (record { parent = (Some 1); children = (4 ∷ []); what = element tags.Div None [] None [] })) ∷ (Some (record { parent = (Some 3); children = (5 ∷ []); what = element tags.Div None [] None [] })) ∷ (Some (record { parent = (Some 4); children = (6 ∷ []); what = element tags.Div None [] None [] })) ∷ (Some (record { parent = (Some 5); children = (7 ∷ []); what = element tags.Div None [] None [] })) ∷ (Some (record { parent = (Some 6); children = []; what = text (120 ∷ []) })) ∷ []) 8) (insert 1 0 ((record { parent = None; kind = html.element tags.Div (record { id = None; classes = []; dir = None; style = None }) }) ∷ (record { parent = (Some 0); kind = html.element tags.Div (record { id = None; classes = []; dir = None; style = None }) }) ∷ (record { parent = (Some 0); kind = html.text (121 ∷ []) }) ∷ (record { parent = None; kind = html.element tags.Br (record { id = None; classes = []; dir = None; style = None }) }) ∷ []) ([] ∷ [] ∷ [] ∷ [] ∷ []))) ≡ took ((Some (record { parent = None; children = (1 ∷ []); what = element tags.Html None [] None [] })) ∷ (Some (record { parent = (Some 0); children = (8 ∷ 11 ∷ 3 ∷ 2 ∷ []); what = element tags.Body None [] None [] })) ∷ (Some (record { parent = (Some 1); children = []; what = text (32 ∷ []) })) ∷ (Some (record { parent = (Some 1); children = (4 ∷ []); what = element tags.Div None [] None [] })) ∷ (Some (record { parent = (Some 3); children = (5 ∷ []); what = element tags.Div None [] None [] })) ∷ (Some (record { parent = (Some 4); children = (6 ∷ []); what = element tags.Div None [] None [] })) ∷ (Some (record { parent = (Some 5); children = (7 ∷ []); what = element tags.Div None [] None [] })) ∷ (Some (record { parent = (Some 6); children = []; what = text (120 ∷ []) })) ∷ (Some (record { parent = (Some 1); children = (9 ∷ 10 ∷ []); what = element tags.Div None [] None [] })) ∷ (Some (record { parent = (Some 8); children = []; what = element tags.Div None [] None [] })) ∷ (Some (record { parent = (Some 8); children = []; what = text (121 ∷ []) })) ∷ (Some (record { parent = (Some 1); children = []; what = element tags.Br None [] None [] })) ∷ []) 12 (1 ∷ [])
unfolding numbers children_from depths_from ancestors_to below_levels count_below
an_insertion = refl

a_removal : told (edited (of ((Some (record { parent = None; children = (1 ∷ []); what = element tags.Html None [] None [] })) ∷ (Some (record { parent = (Some 0); children = (2 ∷ 3 ∷ []); what = element tags.Body None [] None [] })) ∷ (Some (record { parent = (Some 1); children = []; what = text (215 ∷ 144 ∷ []) })) ∷ (Some (record { parent = (Some 1); children = (4 ∷ []); what = element tags.I None [] None [] })) ∷ (Some (record { parent = (Some 3); children = []; what = text (32 ∷ []) })) ∷ []) 5) (remove 3)) ≡ took ((Some (record { parent = None; children = (1 ∷ []); what = element tags.Html None [] None [] })) ∷ (Some (record { parent = (Some 0); children = (2 ∷ []); what = element tags.Body None [] None [] })) ∷ (Some (record { parent = (Some 1); children = []; what = text (215 ∷ 144 ∷ []) })) ∷ None ∷ None ∷ []) 5 (1 ∷ [])
unfolding numbers children_from depths_from ancestors_to below_levels count_below
a_removal = refl

a_move : told (edited (of ((Some (record { parent = None; children = (1 ∷ []); what = element tags.Html None [] None [] })) ∷ (Some (record { parent = (Some 0); children = (2 ∷ 3 ∷ []); what = element tags.Body None [] None [] })) ∷ (Some (record { parent = (Some 1); children = []; what = text [] })) ∷ (Some (record { parent = (Some 1); children = (4 ∷ []); what = element tags.P None [] None [] })) ∷ (Some (record { parent = (Some 3); children = []; what = text (120 ∷ []) })) ∷ []) 5) (move_to 4 1 1)) ≡ took ((Some (record { parent = None; children = (1 ∷ []); what = element tags.Html None [] None [] })) ∷ (Some (record { parent = (Some 0); children = (2 ∷ 4 ∷ 3 ∷ []); what = element tags.Body None [] None [] })) ∷ (Some (record { parent = (Some 1); children = []; what = text [] })) ∷ (Some (record { parent = (Some 1); children = []; what = element tags.P None [] None [] })) ∷ (Some (record { parent = (Some 1); children = []; what = text (120 ∷ []) })) ∷ []) 5 (3 ∷ 1 ∷ [])
unfolding numbers children_from depths_from ancestors_to below_levels count_below
a_move = refl

no_such_node : told (edited (of ((Some (record { parent = None; children = (1 ∷ []); what = element tags.Html None [] None [] })) ∷ (Some (record { parent = (Some 0); children = (2 ∷ 3 ∷ []); what = element tags.Body None [] None [] })) ∷ (Some (record { parent = (Some 1); children = []; what = text (32 ∷ []) })) ∷ (Some (record { parent = (Some 1); children = (4 ∷ []); what = element tags.Span None [] None [] })) ∷ (Some (record { parent = (Some 3); children = []; what = text [] })) ∷ []) 5) (remove 5)) ≡ no NoNode
unfolding numbers children_from depths_from ancestors_to below_levels count_below
no_such_node = refl

a_root : told (edited (of ((Some (record { parent = None; children = (1 ∷ []); what = element tags.Html None [] None [] })) ∷ (Some (record { parent = (Some 0); children = (2 ∷ 4 ∷ []); what = element tags.Body None [] None [] })) ∷ (Some (record { parent = (Some 1); children = (3 ∷ []); what = element tags.Div None [] None ((record { property = properties.WritingMode; value = values.Keyword keywords.HorizontalTb; important = false; place = 0 }) ∷ []) })) ∷ (Some (record { parent = (Some 2); children = []; what = text (32 ∷ []) })) ∷ (Some (record { parent = (Some 1); children = []; what = element tags.Br None [] None [] })) ∷ []) 5) (move_to 1 3 0)) ≡ no IsRoot
unfolding numbers children_from depths_from ancestors_to below_levels count_below
a_root = refl

not_a_text : told (edited (of ((Some (record { parent = None; children = (1 ∷ []); what = element tags.Html None [] None [] })) ∷ (Some (record { parent = (Some 0); children = (2 ∷ 3 ∷ []); what = element tags.Body None [] None ((record { property = properties.Display; value = values.Keyword keywords.Inline; important = false; place = 0 }) ∷ []) })) ∷ (Some (record { parent = (Some 1); children = []; what = text (120 ∷ []) })) ∷ (Some (record { parent = (Some 1); children = (4 ∷ 5 ∷ []); what = element tags.Span None [] None ((record { property = properties.Display; value = values.Keyword keywords.None; important = false; place = 0 }) ∷ []) })) ∷ (Some (record { parent = (Some 3); children = []; what = text (97 ∷ []) })) ∷ (Some (record { parent = (Some 3); children = []; what = element tags.Br None [] None [] })) ∷ []) 6) (set_text 5 [])) ≡ no NotText
unfolding numbers children_from depths_from ancestors_to below_levels count_below
not_a_text = refl

not_an_element : told (edited (of ((Some (record { parent = None; children = (1 ∷ []); what = element tags.Html None [] None [] })) ∷ (Some (record { parent = (Some 0); children = (2 ∷ 3 ∷ []); what = element tags.Body None [] None [] })) ∷ (Some (record { parent = (Some 1); children = []; what = text (32 ∷ []) })) ∷ (Some (record { parent = (Some 1); children = (5 ∷ []); what = element tags.I None ((97 ∷ []) ∷ []) None ((record { property = properties.Display; value = values.Keyword keywords.InlineBlock; important = false; place = 0 }) ∷ []) })) ∷ None ∷ (Some (record { parent = (Some 3); children = []; what = element tags.Br None ((97 ∷ []) ∷ []) None [] })) ∷ []) 6) (set_class 2 ((60 ∷ []) ∷ []))) ≡ no NotElement
unfolding numbers children_from depths_from ancestors_to below_levels count_below
not_an_element = refl

inside_itself : told (edited (of ((Some (record { parent = None; children = (1 ∷ []); what = element tags.Html None [] None [] })) ∷ (Some (record { parent = (Some 0); children = (2 ∷ 3 ∷ []); what = element tags.Body None [] None [] })) ∷ (Some (record { parent = (Some 1); children = []; what = text (97 ∷ []) })) ∷ (Some (record { parent = (Some 1); children = (4 ∷ []); what = element tags.P None [] None [] })) ∷ (Some (record { parent = (Some 3); children = []; what = text (120 ∷ []) })) ∷ []) 5) (move_to 3 3 1)) ≡ no Inside
unfolding numbers children_from depths_from ancestors_to below_levels count_below
inside_itself = refl

past_the_children : told (edited (of ((Some (record { parent = None; children = (1 ∷ []); what = element tags.Html None [] None [] })) ∷ (Some (record { parent = (Some 0); children = (2 ∷ 3 ∷ []); what = element tags.Body None ((97 ∷ []) ∷ (98 ∷ []) ∷ []) None [] })) ∷ (Some (record { parent = (Some 1); children = []; what = text [] })) ∷ (Some (record { parent = (Some 1); children = (4 ∷ []); what = element tags.Div None [] None [] })) ∷ (Some (record { parent = (Some 3); children = []; what = text (32 ∷ []) })) ∷ []) 5) (move_to 2 3 2)) ≡ no BadIndex
unfolding numbers children_from depths_from ancestors_to below_levels count_below
past_the_children = refl
