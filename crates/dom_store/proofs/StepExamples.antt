-- Steps of edits of small documents, back and there again, as an independent implementation has them.
use Rattle.std.specs.Prelude.{◌≡◌, refl, ℕ, zero, suc, ◌++◌, false, List, [], ◌∷◌, map, get_or, Option, Some, None}
use Rattle.css_types.specs.declared.property.Property.TheVariants as properties
use Rattle.css_types.specs.declared.keyword.Keyword.TheVariants as keywords
use Rattle.css_types.specs.declared.value.Value.TheVariants as values
use Rattle.wm_modes.specs.declared.mode.Direction.TheVariants as directions
use Rattle.html_tokens.specs.declared.tag.Tag.TheVariants as tags
use Rattle.html_read.specs.Values as html
use Rattle.dom_store.specs.State.{Entry, State, element, text}
use Rattle.dom_store.specs.Opening.{children_from}
use Rattle.dom_store.specs.Standing.{below_levels}
use Rattle.dom_store.specs.Edits.{EditOf, set_text, set_style, set_class, insert, remove, move_to, after}
use Rattle.dom_store.specs.Exact.{exact_text, exact_style, exact_class, exact_move, take_nodes, restore, exactly, concerned_exactly}
use Rattle.dom_store.specs.Steps.{StepOf, numbered_from, step_of}

unfoldable numbers : ℕ → List ℕ
numbers zero = []
numbers (suc n) = numbers n ++ n ∷ []

abbrev of : List (Option Entry) → ℕ → State
of entries next = record { node_at = λ n. get_or entries n None; next = next }

-- the nodes below the next number, that number, and the concerned elements
data Told : Type 0 where
  told : List (Option Entry) → ℕ → List ℕ → Told

abbrev tell : State → List ℕ → Told
tell state elements = told (map state.node_at (numbers state.next)) state.next elements

data Tried : Type 0 where
  tried : StepOf → Told → Told → Tried

-- the step of an edit, the state after it and back again, and that one again
abbrev try : State → EditOf → Tried
try state edit =
    let step = step_of state edit in
    let done = after state edit in
    let back = exactly done step.back in
    tried step (tell back (concerned_exactly done step.back)) (tell (exactly back step.again) (concerned_exactly back step.again))

a_text : try (of ((Some (record { parent = None; children = (1 ∷ []); what = (element tags.Html None [] None []) })) ∷ (Some (record { parent = (Some 0); children = (4 ∷ []); what = (element tags.Body None [] None ((record { property = properties.Display; value = values.Keyword keywords.None; important = false; place = 0 }) ∷ (record { property = properties.Display; value = values.Keyword keywords.None; important = false; place = 1 }) ∷ [])) })) ∷ None ∷ None ∷ (Some (record { parent = (Some 1); children = []; what = (text (97 ∷ 98 ∷ 32 ∷ 99 ∷ 100 ∷ [])) })) ∷ []) 5) (set_text 4 (32 ∷ [])) ≡ tried (record { back = (exact_text 4 (97 ∷ 98 ∷ 32 ∷ 99 ∷ 100 ∷ [])); again = (exact_text 4 (32 ∷ [])) }) (told ((Some (record { parent = None; children = (1 ∷ []); what = (element tags.Html None [] None []) })) ∷ (Some (record { parent = (Some 0); children = (4 ∷ []); what = (element tags.Body None [] None ((record { property = properties.Display; value = values.Keyword keywords.None; important = false; place = 0 }) ∷ (record { property = properties.Display; value = values.Keyword keywords.None; important = false; place = 1 }) ∷ [])) })) ∷ None ∷ None ∷ (Some (record { parent = (Some 1); children = []; what = (text (97 ∷ 98 ∷ 32 ∷ 99 ∷ 100 ∷ [])) })) ∷ []) 5 (1 ∷ [])) (told ((Some (record { parent = None; children = (1 ∷ []); what = (element tags.Html None [] None []) })) ∷ (Some (record { parent = (Some 0); children = (4 ∷ []); what = (element tags.Body None [] None ((record { property = properties.Display; value = values.Keyword keywords.None; important = false; place = 0 }) ∷ (record { property = properties.Display; value = values.Keyword keywords.None; important = false; place = 1 }) ∷ [])) })) ∷ None ∷ None ∷ (Some (record { parent = (Some 1); children = []; what = (text (32 ∷ [])) })) ∷ []) 5 (1 ∷ []))
unfolding numbers children_from below_levels numbered_from
a_text = refl

a_text_of_others : try (of ((Some (record { parent = None; children = (1 ∷ []); what = (element tags.Html None [] None []) })) ∷ (Some (record { parent = (Some 0); children = (2 ∷ 3 ∷ 4 ∷ []); what = (element tags.Body None [] None ((record { property = properties.Display; value = values.Keyword keywords.None; important = false; place = 0 }) ∷ (record { property = properties.Display; value = values.Keyword keywords.None; important = false; place = 2 }) ∷ [])) })) ∷ (Some (record { parent = (Some 1); children = []; what = (text (51 ∷ [])) })) ∷ (Some (record { parent = (Some 1); children = []; what = (element tags.Br None [] None []) })) ∷ (Some (record { parent = (Some 1); children = []; what = (text (97 ∷ 98 ∷ 32 ∷ 99 ∷ 100 ∷ [])) })) ∷ []) 5) (set_text 2 (97 ∷ 98 ∷ 32 ∷ 99 ∷ 100 ∷ [])) ≡ tried (record { back = (exact_text 2 (51 ∷ [])); again = (exact_text 2 (97 ∷ 98 ∷ 32 ∷ 99 ∷ 100 ∷ [])) }) (told ((Some (record { parent = None; children = (1 ∷ []); what = (element tags.Html None [] None []) })) ∷ (Some (record { parent = (Some 0); children = (2 ∷ 3 ∷ 4 ∷ []); what = (element tags.Body None [] None ((record { property = properties.Display; value = values.Keyword keywords.None; important = false; place = 0 }) ∷ (record { property = properties.Display; value = values.Keyword keywords.None; important = false; place = 2 }) ∷ [])) })) ∷ (Some (record { parent = (Some 1); children = []; what = (text (51 ∷ [])) })) ∷ (Some (record { parent = (Some 1); children = []; what = (element tags.Br None [] None []) })) ∷ (Some (record { parent = (Some 1); children = []; what = (text (97 ∷ 98 ∷ 32 ∷ 99 ∷ 100 ∷ [])) })) ∷ []) 5 (1 ∷ [])) (told ((Some (record { parent = None; children = (1 ∷ []); what = (element tags.Html None [] None []) })) ∷ (Some (record { parent = (Some 0); children = (2 ∷ 3 ∷ 4 ∷ []); what = (element tags.Body None [] None ((record { property = properties.Display; value = values.Keyword keywords.None; important = false; place = 0 }) ∷ (record { property = properties.Display; value = values.Keyword keywords.None; important = false; place = 2 }) ∷ [])) })) ∷ (Some (record { parent = (Some 1); children = []; what = (text (97 ∷ 98 ∷ 32 ∷ 99 ∷ 100 ∷ [])) })) ∷ (Some (record { parent = (Some 1); children = []; what = (element tags.Br None [] None []) })) ∷ (Some (record { parent = (Some 1); children = []; what = (text (97 ∷ 98 ∷ 32 ∷ 99 ∷ 100 ∷ [])) })) ∷ []) 5 (1 ∷ []))
unfolding numbers children_from below_levels numbered_from
a_text_of_others = refl

a_style : try (of ((Some (record { parent = None; children = (1 ∷ []); what = (element tags.Html None [] None []) })) ∷ (Some (record { parent = (Some 0); children = (2 ∷ 5 ∷ 6 ∷ []); what = (element tags.Body None [] None ((record { property = properties.Display; value = values.Keyword keywords.None; important = false; place = 4 }) ∷ (record { property = properties.Display; value = values.Keyword keywords.None; important = false; place = 5 }) ∷ [])) })) ∷ (Some (record { parent = (Some 1); children = []; what = (text (227 ∷ 129 ∷ 130 ∷ 227 ∷ 129 ∷ 132 ∷ [])) })) ∷ None ∷ None ∷ (Some (record { parent = (Some 1); children = []; what = (text (10 ∷ [])) })) ∷ (Some (record { parent = (Some 1); children = []; what = (element tags.Br None [] None ((record { property = properties.Display; value = values.Keyword keywords.None; important = false; place = 3 }) ∷ [])) })) ∷ []) 7) (set_style 6 ((record { property = properties.Display; value = values.Keyword keywords.None; important = false; place = 1 }) ∷ [])) ≡ tried (record { back = (exact_style 6 ((record { property = properties.Display; value = values.Keyword keywords.None; important = false; place = 3 }) ∷ [])); again = (exact_style 6 ((record { property = properties.Display; value = values.Keyword keywords.None; important = false; place = 1 }) ∷ [])) }) (told ((Some (record { parent = None; children = (1 ∷ []); what = (element tags.Html None [] None []) })) ∷ (Some (record { parent = (Some 0); children = (2 ∷ 5 ∷ 6 ∷ []); what = (element tags.Body None [] None ((record { property = properties.Display; value = values.Keyword keywords.None; important = false; place = 4 }) ∷ (record { property = properties.Display; value = values.Keyword keywords.None; important = false; place = 5 }) ∷ [])) })) ∷ (Some (record { parent = (Some 1); children = []; what = (text (227 ∷ 129 ∷ 130 ∷ 227 ∷ 129 ∷ 132 ∷ [])) })) ∷ None ∷ None ∷ (Some (record { parent = (Some 1); children = []; what = (text (10 ∷ [])) })) ∷ (Some (record { parent = (Some 1); children = []; what = (element tags.Br None [] None ((record { property = properties.Display; value = values.Keyword keywords.None; important = false; place = 3 }) ∷ [])) })) ∷ []) 7 (6 ∷ [])) (told ((Some (record { parent = None; children = (1 ∷ []); what = (element tags.Html None [] None []) })) ∷ (Some (record { parent = (Some 0); children = (2 ∷ 5 ∷ 6 ∷ []); what = (element tags.Body None [] None ((record { property = properties.Display; value = values.Keyword keywords.None; important = false; place = 4 }) ∷ (record { property = properties.Display; value = values.Keyword keywords.None; important = false; place = 5 }) ∷ [])) })) ∷ (Some (record { parent = (Some 1); children = []; what = (text (227 ∷ 129 ∷ 130 ∷ 227 ∷ 129 ∷ 132 ∷ [])) })) ∷ None ∷ None ∷ (Some (record { parent = (Some 1); children = []; what = (text (10 ∷ [])) })) ∷ (Some (record { parent = (Some 1); children = []; what = (element tags.Br None [] None ((record { property = properties.Display; value = values.Keyword keywords.None; important = false; place = 1 }) ∷ [])) })) ∷ []) 7 (6 ∷ []))
unfolding numbers children_from below_levels numbered_from
a_style = refl

a_style_among_others : try (of ((Some (record { parent = None; children = (1 ∷ []); what = (element tags.Html None [] None []) })) ∷ (Some (record { parent = (Some 0); children = (6 ∷ 7 ∷ 9 ∷ 2 ∷ 5 ∷ []); what = (element tags.Body None [] None ((record { property = properties.Display; value = values.Keyword keywords.None; important = false; place = 10 }) ∷ (record { property = properties.Display; value = values.Keyword keywords.None; important = false; place = 11 }) ∷ (record { property = properties.Display; value = values.Keyword keywords.None; important = false; place = 12 }) ∷ [])) })) ∷ (Some (record { parent = (Some 1); children = []; what = (text (226 ∷ 128 ∷ 171 ∷ 121 ∷ 226 ∷ 128 ∷ 172 ∷ [])) })) ∷ None ∷ None ∷ (Some (record { parent = (Some 1); children = []; what = (text (122 ∷ 32 ∷ 50 ∷ [])) })) ∷ (Some (record { parent = (Some 1); children = []; what = (text (97 ∷ [])) })) ∷ (Some (record { parent = (Some 1); children = (8 ∷ []); what = (element tags.P None [] None ((record { property = properties.Display; value = values.Keyword keywords.None; important = false; place = 6 }) ∷ (record { property = properties.Display; value = values.Keyword keywords.None; important = false; place = 7 }) ∷ (record { property = properties.Display; value = values.Keyword keywords.None; important = false; place = 8 }) ∷ [])) })) ∷ (Some (record { parent = (Some 7); children = []; what = (text (98 ∷ [])) })) ∷ (Some (record { parent = (Some 1); children = []; what = (text (99 ∷ [])) })) ∷ []) 10) (set_style 7 ((record { property = properties.Display; value = values.Keyword keywords.None; important = false; place = 2 }) ∷ (record { property = properties.Display; value = values.Keyword keywords.None; important = false; place = 9 }) ∷ [])) ≡ tried (record { back = (exact_style 7 ((record { property = properties.Display; value = values.Keyword keywords.None; important = false; place = 6 }) ∷ (record { property = properties.Display; value = values.Keyword keywords.None; important = false; place = 7 }) ∷ (record { property = properties.Display; value = values.Keyword keywords.None; important = false; place = 8 }) ∷ [])); again = (exact_style 7 ((record { property = properties.Display; value = values.Keyword keywords.None; important = false; place = 2 }) ∷ (record { property = properties.Display; value = values.Keyword keywords.None; important = false; place = 9 }) ∷ [])) }) (told ((Some (record { parent = None; children = (1 ∷ []); what = (element tags.Html None [] None []) })) ∷ (Some (record { parent = (Some 0); children = (6 ∷ 7 ∷ 9 ∷ 2 ∷ 5 ∷ []); what = (element tags.Body None [] None ((record { property = properties.Display; value = values.Keyword keywords.None; important = false; place = 10 }) ∷ (record { property = properties.Display; value = values.Keyword keywords.None; important = false; place = 11 }) ∷ (record { property = properties.Display; value = values.Keyword keywords.None; important = false; place = 12 }) ∷ [])) })) ∷ (Some (record { parent = (Some 1); children = []; what = (text (226 ∷ 128 ∷ 171 ∷ 121 ∷ 226 ∷ 128 ∷ 172 ∷ [])) })) ∷ None ∷ None ∷ (Some (record { parent = (Some 1); children = []; what = (text (122 ∷ 32 ∷ 50 ∷ [])) })) ∷ (Some (record { parent = (Some 1); children = []; what = (text (97 ∷ [])) })) ∷ (Some (record { parent = (Some 1); children = (8 ∷ []); what = (element tags.P None [] None ((record { property = properties.Display; value = values.Keyword keywords.None; important = false; place = 6 }) ∷ (record { property = properties.Display; value = values.Keyword keywords.None; important = false; place = 7 }) ∷ (record { property = properties.Display; value = values.Keyword keywords.None; important = false; place = 8 }) ∷ [])) })) ∷ (Some (record { parent = (Some 7); children = []; what = (text (98 ∷ [])) })) ∷ (Some (record { parent = (Some 1); children = []; what = (text (99 ∷ [])) })) ∷ []) 10 (7 ∷ [])) (told ((Some (record { parent = None; children = (1 ∷ []); what = (element tags.Html None [] None []) })) ∷ (Some (record { parent = (Some 0); children = (6 ∷ 7 ∷ 9 ∷ 2 ∷ 5 ∷ []); what = (element tags.Body None [] None ((record { property = properties.Display; value = values.Keyword keywords.None; important = false; place = 10 }) ∷ (record { property = properties.Display; value = values.Keyword keywords.None; important = false; place = 11 }) ∷ (record { property = properties.Display; value = values.Keyword keywords.None; important = false; place = 12 }) ∷ [])) })) ∷ (Some (record { parent = (Some 1); children = []; what = (text (226 ∷ 128 ∷ 171 ∷ 121 ∷ 226 ∷ 128 ∷ 172 ∷ [])) })) ∷ None ∷ None ∷ (Some (record { parent = (Some 1); children = []; what = (text (122 ∷ 32 ∷ 50 ∷ [])) })) ∷ (Some (record { parent = (Some 1); children = []; what = (text (97 ∷ [])) })) ∷ (Some (record { parent = (Some 1); children = (8 ∷ []); what = (element tags.P None [] None ((record { property = properties.Display; value = values.Keyword keywords.None; important = false; place = 2 }) ∷ (record { property = properties.Display; value = values.Keyword keywords.None; important = false; place = 9 }) ∷ [])) })) ∷ (Some (record { parent = (Some 7); children = []; what = (text (98 ∷ [])) })) ∷ (Some (record { parent = (Some 1); children = []; what = (text (99 ∷ [])) })) ∷ []) 10 (7 ∷ []))
unfolding numbers children_from below_levels numbered_from
a_style_among_others = refl

a_class : try (of ((Some (record { parent = None; children = (1 ∷ []); what = (element tags.Html None [] None []) })) ∷ (Some (record { parent = (Some 0); children = (2 ∷ 3 ∷ 6 ∷ []); what = (element tags.Body None [] None ((record { property = properties.Display; value = values.Keyword keywords.None; important = false; place = 10 }) ∷ (record { property = properties.Display; value = values.Keyword keywords.None; important = false; place = 11 }) ∷ (record { property = properties.Display; value = values.Keyword keywords.None; important = false; place = 0 }) ∷ (record { property = properties.Display; value = values.Keyword keywords.None; important = false; place = 12 }) ∷ [])) })) ∷ (Some (record { parent = (Some 1); children = []; what = (text (105 ∷ 109 ∷ [])) })) ∷ (Some (record { parent = (Some 1); children = []; what = (element tags.Bdo None ((97 ∷ []) ∷ []) (Some directions.Rtl) ((record { property = properties.Display; value = values.Keyword keywords.None; important = false; place = 13 }) ∷ [])) })) ∷ None ∷ None ∷ (Some (record { parent = (Some 1); children = []; what = (text (122 ∷ 32 ∷ 50 ∷ [])) })) ∷ []) 7) (set_class 3 []) ≡ tried (record { back = (exact_class 3 ((97 ∷ []) ∷ [])); again = (exact_class 3 []) }) (told ((Some (record { parent = None; children = (1 ∷ []); what = (element tags.Html None [] None []) })) ∷ (Some (record { parent = (Some 0); children = (2 ∷ 3 ∷ 6 ∷ []); what = (element tags.Body None [] None ((record { property = properties.Display; value = values.Keyword keywords.None; important = false; place = 10 }) ∷ (record { property = properties.Display; value = values.Keyword keywords.None; important = false; place = 11 }) ∷ (record { property = properties.Display; value = values.Keyword keywords.None; important = false; place = 0 }) ∷ (record { property = properties.Display; value = values.Keyword keywords.None; important = false; place = 12 }) ∷ [])) })) ∷ (Some (record { parent = (Some 1); children = []; what = (text (105 ∷ 109 ∷ [])) })) ∷ (Some (record { parent = (Some 1); children = []; what = (element tags.Bdo None ((97 ∷ []) ∷ []) (Some directions.Rtl) ((record { property = properties.Display; value = values.Keyword keywords.None; important = false; place = 13 }) ∷ [])) })) ∷ None ∷ None ∷ (Some (record { parent = (Some 1); children = []; what = (text (122 ∷ 32 ∷ 50 ∷ [])) })) ∷ []) 7 (3 ∷ [])) (told ((Some (record { parent = None; children = (1 ∷ []); what = (element tags.Html None [] None []) })) ∷ (Some (record { parent = (Some 0); children = (2 ∷ 3 ∷ 6 ∷ []); what = (element tags.Body None [] None ((record { property = properties.Display; value = values.Keyword keywords.None; important = false; place = 10 }) ∷ (record { property = properties.Display; value = values.Keyword keywords.None; important = false; place = 11 }) ∷ (record { property = properties.Display; value = values.Keyword keywords.None; important = false; place = 0 }) ∷ (record { property = properties.Display; value = values.Keyword keywords.None; important = false; place = 12 }) ∷ [])) })) ∷ (Some (record { parent = (Some 1); children = []; what = (text (105 ∷ 109 ∷ [])) })) ∷ (Some (record { parent = (Some 1); children = []; what = (element tags.Bdo None [] (Some directions.Rtl) ((record { property = properties.Display; value = values.Keyword keywords.None; important = false; place = 13 }) ∷ [])) })) ∷ None ∷ None ∷ (Some (record { parent = (Some 1); children = []; what = (text (122 ∷ 32 ∷ 50 ∷ [])) })) ∷ []) 7 (3 ∷ []))
unfolding numbers children_from below_levels numbered_from
a_class = refl

a_class_among_others : try (of ((Some (record { parent = None; children = (1 ∷ []); what = (element tags.Html None [] None []) })) ∷ (Some (record { parent = (Some 0); children = (2 ∷ 3 ∷ 4 ∷ 7 ∷ []); what = (element tags.Body None [] None ((record { property = properties.Display; value = values.Keyword keywords.None; important = false; place = 12 }) ∷ (record { property = properties.Display; value = values.Keyword keywords.None; important = false; place = 14 }) ∷ [])) })) ∷ (Some (record { parent = (Some 1); children = []; what = (text (227 ∷ 129 ∷ 130 ∷ 227 ∷ 129 ∷ 132 ∷ 49 ∷ 50 ∷ [])) })) ∷ (Some (record { parent = (Some 1); children = []; what = (element tags.Br None ((98 ∷ []) ∷ []) None []) })) ∷ (Some (record { parent = (Some 1); children = []; what = (text (40 ∷ 216 ∷ 167 ∷ 49 ∷ 41 ∷ [])) })) ∷ None ∷ None ∷ (Some (record { parent = (Some 1); children = []; what = (text (105 ∷ 109 ∷ [])) })) ∷ None ∷ None ∷ None ∷ None ∷ None ∷ None ∷ None ∷ None ∷ None ∷ []) 17) (set_class 3 ((98 ∷ []) ∷ [])) ≡ tried (record { back = (exact_class 3 ((98 ∷ []) ∷ [])); again = (exact_class 3 ((98 ∷ []) ∷ [])) }) (told ((Some (record { parent = None; children = (1 ∷ []); what = (element tags.Html None [] None []) })) ∷ (Some (record { parent = (Some 0); children = (2 ∷ 3 ∷ 4 ∷ 7 ∷ []); what = (element tags.Body None [] None ((record { property = properties.Display; value = values.Keyword keywords.None; important = false; place = 12 }) ∷ (record { property = properties.Display; value = values.Keyword keywords.None; important = false; place = 14 }) ∷ [])) })) ∷ (Some (record { parent = (Some 1); children = []; what = (text (227 ∷ 129 ∷ 130 ∷ 227 ∷ 129 ∷ 132 ∷ 49 ∷ 50 ∷ [])) })) ∷ (Some (record { parent = (Some 1); children = []; what = (element tags.Br None ((98 ∷ []) ∷ []) None []) })) ∷ (Some (record { parent = (Some 1); children = []; what = (text (40 ∷ 216 ∷ 167 ∷ 49 ∷ 41 ∷ [])) })) ∷ None ∷ None ∷ (Some (record { parent = (Some 1); children = []; what = (text (105 ∷ 109 ∷ [])) })) ∷ None ∷ None ∷ None ∷ None ∷ None ∷ None ∷ None ∷ None ∷ None ∷ []) 17 (3 ∷ [])) (told ((Some (record { parent = None; children = (1 ∷ []); what = (element tags.Html None [] None []) })) ∷ (Some (record { parent = (Some 0); children = (2 ∷ 3 ∷ 4 ∷ 7 ∷ []); what = (element tags.Body None [] None ((record { property = properties.Display; value = values.Keyword keywords.None; important = false; place = 12 }) ∷ (record { property = properties.Display; value = values.Keyword keywords.None; important = false; place = 14 }) ∷ [])) })) ∷ (Some (record { parent = (Some 1); children = []; what = (text (227 ∷ 129 ∷ 130 ∷ 227 ∷ 129 ∷ 132 ∷ 49 ∷ 50 ∷ [])) })) ∷ (Some (record { parent = (Some 1); children = []; what = (element tags.Br None ((98 ∷ []) ∷ []) None []) })) ∷ (Some (record { parent = (Some 1); children = []; what = (text (40 ∷ 216 ∷ 167 ∷ 49 ∷ 41 ∷ [])) })) ∷ None ∷ None ∷ (Some (record { parent = (Some 1); children = []; what = (text (105 ∷ 109 ∷ [])) })) ∷ None ∷ None ∷ None ∷ None ∷ None ∷ None ∷ None ∷ None ∷ None ∷ []) 17 (3 ∷ []))
unfolding numbers children_from below_levels numbered_from
a_class_among_others = refl

an_insertion : try (of ((Some (record { parent = None; children = (1 ∷ []); what = (element tags.Html None [] None []) })) ∷ (Some (record { parent = (Some 0); children = (2 ∷ 3 ∷ 4 ∷ []); what = (element tags.Body None [] None ((record { property = properties.Display; value = values.Keyword keywords.None; important = false; place = 15 }) ∷ [])) })) ∷ (Some (record { parent = (Some 1); children = []; what = (text (97 ∷ 98 ∷ 32 ∷ 99 ∷ 100 ∷ [])) })) ∷ (Some (record { parent = (Some 1); children = []; what = (element tags.Br None [] None []) })) ∷ (Some (record { parent = (Some 1); children = []; what = (text (32 ∷ [])) })) ∷ []) 5) (insert 1 3 ((record { parent = None; kind = html.element tags.Span (record { id = None; classes = []; dir = (Some directions.Rtl); style = None }) }) ∷ (record { parent = (Some 0); kind = html.text (97 ∷ []) }) ∷ (record { parent = None; kind = html.text (98 ∷ []) }) ∷ []) ([] ∷ [] ∷ [] ∷ [])) ≡ tried (record { back = (take_nodes 1 (5 ∷ 7 ∷ [])); again = (restore 1 3 ((record { number = 5; parent = 1; what = (element tags.Span None [] (Some directions.Rtl) []) }) ∷ (record { number = 6; parent = 5; what = (text (97 ∷ [])) }) ∷ (record { number = 7; parent = 1; what = (text (98 ∷ [])) }) ∷ [])) }) (told ((Some (record { parent = None; children = (1 ∷ []); what = (element tags.Html None [] None []) })) ∷ (Some (record { parent = (Some 0); children = (2 ∷ 3 ∷ 4 ∷ []); what = (element tags.Body None [] None ((record { property = properties.Display; value = values.Keyword keywords.None; important = false; place = 15 }) ∷ [])) })) ∷ (Some (record { parent = (Some 1); children = []; what = (text (97 ∷ 98 ∷ 32 ∷ 99 ∷ 100 ∷ [])) })) ∷ (Some (record { parent = (Some 1); children = []; what = (element tags.Br None [] None []) })) ∷ (Some (record { parent = (Some 1); children = []; what = (text (32 ∷ [])) })) ∷ None ∷ None ∷ None ∷ []) 8 (1 ∷ [])) (told ((Some (record { parent = None; children = (1 ∷ []); what = (element tags.Html None [] None []) })) ∷ (Some (record { parent = (Some 0); children = (2 ∷ 3 ∷ 4 ∷ 5 ∷ 7 ∷ []); what = (element tags.Body None [] None ((record { property = properties.Display; value = values.Keyword keywords.None; important = false; place = 15 }) ∷ [])) })) ∷ (Some (record { parent = (Some 1); children = []; what = (text (97 ∷ 98 ∷ 32 ∷ 99 ∷ 100 ∷ [])) })) ∷ (Some (record { parent = (Some 1); children = []; what = (element tags.Br None [] None []) })) ∷ (Some (record { parent = (Some 1); children = []; what = (text (32 ∷ [])) })) ∷ (Some (record { parent = (Some 1); children = (6 ∷ []); what = (element tags.Span None [] (Some directions.Rtl) []) })) ∷ (Some (record { parent = (Some 5); children = []; what = (text (97 ∷ [])) })) ∷ (Some (record { parent = (Some 1); children = []; what = (text (98 ∷ [])) })) ∷ []) 8 (1 ∷ []))
unfolding numbers children_from below_levels numbered_from
an_insertion = refl

an_insertion_of_a_subtree : try (of ((Some (record { parent = None; children = (1 ∷ []); what = (element tags.Html None [] None []) })) ∷ (Some (record { parent = (Some 0); children = (2 ∷ []); what = (element tags.Body None [] None ((record { property = properties.Display; value = values.Keyword keywords.None; important = false; place = 10 }) ∷ (record { property = properties.Display; value = values.Keyword keywords.None; important = false; place = 11 }) ∷ (record { property = properties.Display; value = values.Keyword keywords.None; important = false; place = 5 }) ∷ [])) })) ∷ (Some (record { parent = (Some 1); children = (3 ∷ []); what = (element tags.P None ((98 ∷ []) ∷ []) None ((record { property = properties.Display; value = values.Keyword keywords.None; important = false; place = 16 }) ∷ [])) })) ∷ (Some (record { parent = (Some 2); children = []; what = (text (122 ∷ 32 ∷ 50 ∷ [])) })) ∷ []) 4) (insert 2 1 ((record { parent = None; kind = html.text (97 ∷ []) }) ∷ (record { parent = None; kind = html.element tags.P (record { id = None; classes = []; dir = None; style = None }) }) ∷ (record { parent = (Some 1); kind = html.text (98 ∷ []) }) ∷ (record { parent = None; kind = html.text (99 ∷ []) }) ∷ []) ([] ∷ [] ∷ [] ∷ [] ∷ [])) ≡ tried (record { back = (take_nodes 2 (4 ∷ 5 ∷ 7 ∷ [])); again = (restore 2 1 ((record { number = 4; parent = 2; what = (text (97 ∷ [])) }) ∷ (record { number = 5; parent = 2; what = (element tags.P None [] None []) }) ∷ (record { number = 6; parent = 5; what = (text (98 ∷ [])) }) ∷ (record { number = 7; parent = 2; what = (text (99 ∷ [])) }) ∷ [])) }) (told ((Some (record { parent = None; children = (1 ∷ []); what = (element tags.Html None [] None []) })) ∷ (Some (record { parent = (Some 0); children = (2 ∷ []); what = (element tags.Body None [] None ((record { property = properties.Display; value = values.Keyword keywords.None; important = false; place = 10 }) ∷ (record { property = properties.Display; value = values.Keyword keywords.None; important = false; place = 11 }) ∷ (record { property = properties.Display; value = values.Keyword keywords.None; important = false; place = 5 }) ∷ [])) })) ∷ (Some (record { parent = (Some 1); children = (3 ∷ []); what = (element tags.P None ((98 ∷ []) ∷ []) None ((record { property = properties.Display; value = values.Keyword keywords.None; important = false; place = 16 }) ∷ [])) })) ∷ (Some (record { parent = (Some 2); children = []; what = (text (122 ∷ 32 ∷ 50 ∷ [])) })) ∷ None ∷ None ∷ None ∷ None ∷ []) 8 (2 ∷ [])) (told ((Some (record { parent = None; children = (1 ∷ []); what = (element tags.Html None [] None []) })) ∷ (Some (record { parent = (Some 0); children = (2 ∷ []); what = (element tags.Body None [] None ((record { property = properties.Display; value = values.Keyword keywords.None; important = false; place = 10 }) ∷ (record { property = properties.Display; value = values.Keyword keywords.None; important = false; place = 11 }) ∷ (record { property = properties.Display; value = values.Keyword keywords.None; important = false; place = 5 }) ∷ [])) })) ∷ (Some (record { parent = (Some 1); children = (3 ∷ 4 ∷ 5 ∷ 7 ∷ []); what = (element tags.P None ((98 ∷ []) ∷ []) None ((record { property = properties.Display; value = values.Keyword keywords.None; important = false; place = 16 }) ∷ [])) })) ∷ (Some (record { parent = (Some 2); children = []; what = (text (122 ∷ 32 ∷ 50 ∷ [])) })) ∷ (Some (record { parent = (Some 2); children = []; what = (text (97 ∷ [])) })) ∷ (Some (record { parent = (Some 2); children = (6 ∷ []); what = (element tags.P None [] None []) })) ∷ (Some (record { parent = (Some 5); children = []; what = (text (98 ∷ [])) })) ∷ (Some (record { parent = (Some 2); children = []; what = (text (99 ∷ [])) })) ∷ []) 8 (2 ∷ []))
unfolding numbers children_from below_levels numbered_from
an_insertion_of_a_subtree = refl

a_removal : try (of ((Some (record { parent = None; children = (1 ∷ []); what = (element tags.Html None [] None []) })) ∷ (Some (record { parent = (Some 0); children = (2 ∷ 3 ∷ 4 ∷ []); what = (element tags.Body None [] None ((record { property = properties.Display; value = values.Keyword keywords.None; important = false; place = 0 }) ∷ [])) })) ∷ (Some (record { parent = (Some 1); children = []; what = (text (215 ∷ 144 ∷ 215 ∷ 145 ∷ 32 ∷ 99 ∷ [])) })) ∷ (Some (record { parent = (Some 1); children = []; what = (element tags.Br None [] None []) })) ∷ (Some (record { parent = (Some 1); children = []; what = (text (122 ∷ 32 ∷ 50 ∷ [])) })) ∷ []) 5) (remove 4) ≡ tried (record { back = (restore 1 2 ((record { number = 4; parent = 1; what = (text (122 ∷ 32 ∷ 50 ∷ [])) }) ∷ [])); again = (take_nodes 1 (4 ∷ [])) }) (told ((Some (record { parent = None; children = (1 ∷ []); what = (element tags.Html None [] None []) })) ∷ (Some (record { parent = (Some 0); children = (2 ∷ 3 ∷ 4 ∷ []); what = (element tags.Body None [] None ((record { property = properties.Display; value = values.Keyword keywords.None; important = false; place = 0 }) ∷ [])) })) ∷ (Some (record { parent = (Some 1); children = []; what = (text (215 ∷ 144 ∷ 215 ∷ 145 ∷ 32 ∷ 99 ∷ [])) })) ∷ (Some (record { parent = (Some 1); children = []; what = (element tags.Br None [] None []) })) ∷ (Some (record { parent = (Some 1); children = []; what = (text (122 ∷ 32 ∷ 50 ∷ [])) })) ∷ []) 5 (1 ∷ [])) (told ((Some (record { parent = None; children = (1 ∷ []); what = (element tags.Html None [] None []) })) ∷ (Some (record { parent = (Some 0); children = (2 ∷ 3 ∷ []); what = (element tags.Body None [] None ((record { property = properties.Display; value = values.Keyword keywords.None; important = false; place = 0 }) ∷ [])) })) ∷ (Some (record { parent = (Some 1); children = []; what = (text (215 ∷ 144 ∷ 215 ∷ 145 ∷ 32 ∷ 99 ∷ [])) })) ∷ (Some (record { parent = (Some 1); children = []; what = (element tags.Br None [] None []) })) ∷ None ∷ []) 5 (1 ∷ []))
unfolding numbers children_from below_levels numbered_from
a_removal = refl

a_removal_of_a_subtree : try (of ((Some (record { parent = None; children = (1 ∷ []); what = (element tags.Html None [] None []) })) ∷ (Some (record { parent = (Some 0); children = (2 ∷ 9 ∷ []); what = (element tags.Body None [] None ((record { property = properties.Display; value = values.Keyword keywords.None; important = false; place = 10 }) ∷ (record { property = properties.Display; value = values.Keyword keywords.None; important = false; place = 11 }) ∷ [])) })) ∷ (Some (record { parent = (Some 1); children = (3 ∷ 4 ∷ 5 ∷ 6 ∷ 8 ∷ []); what = (element tags.Span None ((97 ∷ []) ∷ (98 ∷ []) ∷ []) None ((record { property = properties.Display; value = values.Keyword keywords.None; important = false; place = 17 }) ∷ [])) })) ∷ (Some (record { parent = (Some 2); children = []; what = (text (40 ∷ 216 ∷ 167 ∷ 49 ∷ 41 ∷ [])) })) ∷ (Some (record { parent = (Some 2); children = []; what = (element tags.Bdo None ((97 ∷ []) ∷ (98 ∷ []) ∷ []) None ((record { property = properties.Display; value = values.Keyword keywords.None; important = false; place = 18 }) ∷ (record { property = properties.Display; value = values.Keyword keywords.None; important = false; place = 2 }) ∷ (record { property = properties.Display; value = values.Keyword keywords.None; important = false; place = 9 }) ∷ [])) })) ∷ (Some (record { parent = (Some 2); children = []; what = (text (49 ∷ 50 ∷ 51 ∷ 52 ∷ [])) })) ∷ (Some (record { parent = (Some 2); children = (7 ∷ []); what = (element tags.P None [] None ((record { property = properties.Display; value = values.Keyword keywords.None; important = false; place = 19 }) ∷ [])) })) ∷ (Some (record { parent = (Some 6); children = []; what = (text (121 ∷ [])) })) ∷ (Some (record { parent = (Some 2); children = []; what = (text (120 ∷ [])) })) ∷ (Some (record { parent = (Some 1); children = []; what = (element tags.Br None [] None []) })) ∷ []) 10) (remove 2) ≡ tried (record { back = (restore 1 0 ((record { number = 2; parent = 1; what = (element tags.Span None ((97 ∷ []) ∷ (98 ∷ []) ∷ []) None ((record { property = properties.Display; value = values.Keyword keywords.None; important = false; place = 17 }) ∷ [])) }) ∷ (record { number = 3; parent = 2; what = (text (40 ∷ 216 ∷ 167 ∷ 49 ∷ 41 ∷ [])) }) ∷ (record { number = 4; parent = 2; what = (element tags.Bdo None ((97 ∷ []) ∷ (98 ∷ []) ∷ []) None ((record { property = properties.Display; value = values.Keyword keywords.None; important = false; place = 18 }) ∷ (record { property = properties.Display; value = values.Keyword keywords.None; important = false; place = 2 }) ∷ (record { property = properties.Display; value = values.Keyword keywords.None; important = false; place = 9 }) ∷ [])) }) ∷ (record { number = 5; parent = 2; what = (text (49 ∷ 50 ∷ 51 ∷ 52 ∷ [])) }) ∷ (record { number = 6; parent = 2; what = (element tags.P None [] None ((record { property = properties.Display; value = values.Keyword keywords.None; important = false; place = 19 }) ∷ [])) }) ∷ (record { number = 7; parent = 6; what = (text (121 ∷ [])) }) ∷ (record { number = 8; parent = 2; what = (text (120 ∷ [])) }) ∷ [])); again = (take_nodes 1 (2 ∷ [])) }) (told ((Some (record { parent = None; children = (1 ∷ []); what = (element tags.Html None [] None []) })) ∷ (Some (record { parent = (Some 0); children = (2 ∷ 9 ∷ []); what = (element tags.Body None [] None ((record { property = properties.Display; value = values.Keyword keywords.None; important = false; place = 10 }) ∷ (record { property = properties.Display; value = values.Keyword keywords.None; important = false; place = 11 }) ∷ [])) })) ∷ (Some (record { parent = (Some 1); children = (3 ∷ 4 ∷ 5 ∷ 6 ∷ 8 ∷ []); what = (element tags.Span None ((97 ∷ []) ∷ (98 ∷ []) ∷ []) None ((record { property = properties.Display; value = values.Keyword keywords.None; important = false; place = 17 }) ∷ [])) })) ∷ (Some (record { parent = (Some 2); children = []; what = (text (40 ∷ 216 ∷ 167 ∷ 49 ∷ 41 ∷ [])) })) ∷ (Some (record { parent = (Some 2); children = []; what = (element tags.Bdo None ((97 ∷ []) ∷ (98 ∷ []) ∷ []) None ((record { property = properties.Display; value = values.Keyword keywords.None; important = false; place = 18 }) ∷ (record { property = properties.Display; value = values.Keyword keywords.None; important = false; place = 2 }) ∷ (record { property = properties.Display; value = values.Keyword keywords.None; important = false; place = 9 }) ∷ [])) })) ∷ (Some (record { parent = (Some 2); children = []; what = (text (49 ∷ 50 ∷ 51 ∷ 52 ∷ [])) })) ∷ (Some (record { parent = (Some 2); children = (7 ∷ []); what = (element tags.P None [] None ((record { property = properties.Display; value = values.Keyword keywords.None; important = false; place = 19 }) ∷ [])) })) ∷ (Some (record { parent = (Some 6); children = []; what = (text (121 ∷ [])) })) ∷ (Some (record { parent = (Some 2); children = []; what = (text (120 ∷ [])) })) ∷ (Some (record { parent = (Some 1); children = []; what = (element tags.Br None [] None []) })) ∷ []) 10 (1 ∷ [])) (told ((Some (record { parent = None; children = (1 ∷ []); what = (element tags.Html None [] None []) })) ∷ (Some (record { parent = (Some 0); children = (9 ∷ []); what = (element tags.Body None [] None ((record { property = properties.Display; value = values.Keyword keywords.None; important = false; place = 10 }) ∷ (record { property = properties.Display; value = values.Keyword keywords.None; important = false; place = 11 }) ∷ [])) })) ∷ None ∷ None ∷ None ∷ None ∷ None ∷ None ∷ None ∷ (Some (record { parent = (Some 1); children = []; what = (element tags.Br None [] None []) })) ∷ []) 10 (1 ∷ []))
unfolding numbers children_from below_levels numbered_from
a_removal_of_a_subtree = refl

a_move : try (of ((Some (record { parent = None; children = (1 ∷ []); what = (element tags.Html None [] None []) })) ∷ (Some (record { parent = (Some 0); children = (5 ∷ 3 ∷ 6 ∷ 8 ∷ []); what = (element tags.Body None [] None ((record { property = properties.Display; value = values.Keyword keywords.None; important = false; place = 20 }) ∷ (record { property = properties.Display; value = values.Keyword keywords.None; important = false; place = 21 }) ∷ (record { property = properties.Display; value = values.Keyword keywords.None; important = false; place = 10 }) ∷ (record { property = properties.Display; value = values.Keyword keywords.None; important = false; place = 11 }) ∷ [])) })) ∷ None ∷ (Some (record { parent = (Some 1); children = (4 ∷ []); what = (element tags.Div None [] None ((record { property = properties.Display; value = values.Keyword keywords.None; important = false; place = 22 }) ∷ [])) })) ∷ (Some (record { parent = (Some 3); children = []; what = (text (32 ∷ [])) })) ∷ (Some (record { parent = (Some 1); children = []; what = (text (122 ∷ 32 ∷ 50 ∷ [])) })) ∷ (Some (record { parent = (Some 1); children = (7 ∷ []); what = (element tags.Span None [] (Some directions.Rtl) []) })) ∷ (Some (record { parent = (Some 6); children = []; what = (text (97 ∷ [])) })) ∷ (Some (record { parent = (Some 1); children = []; what = (text (98 ∷ [])) })) ∷ None ∷ []) 10) (move_to 3 6 1) ≡ tried (record { back = (exact_move 3 1 1); again = (exact_move 3 6 1) }) (told ((Some (record { parent = None; children = (1 ∷ []); what = (element tags.Html None [] None []) })) ∷ (Some (record { parent = (Some 0); children = (5 ∷ 3 ∷ 6 ∷ 8 ∷ []); what = (element tags.Body None [] None ((record { property = properties.Display; value = values.Keyword keywords.None; important = false; place = 20 }) ∷ (record { property = properties.Display; value = values.Keyword keywords.None; important = false; place = 21 }) ∷ (record { property = properties.Display; value = values.Keyword keywords.None; important = false; place = 10 }) ∷ (record { property = properties.Display; value = values.Keyword keywords.None; important = false; place = 11 }) ∷ [])) })) ∷ None ∷ (Some (record { parent = (Some 1); children = (4 ∷ []); what = (element tags.Div None [] None ((record { property = properties.Display; value = values.Keyword keywords.None; important = false; place = 22 }) ∷ [])) })) ∷ (Some (record { parent = (Some 3); children = []; what = (text (32 ∷ [])) })) ∷ (Some (record { parent = (Some 1); children = []; what = (text (122 ∷ 32 ∷ 50 ∷ [])) })) ∷ (Some (record { parent = (Some 1); children = (7 ∷ []); what = (element tags.Span None [] (Some directions.Rtl) []) })) ∷ (Some (record { parent = (Some 6); children = []; what = (text (97 ∷ [])) })) ∷ (Some (record { parent = (Some 1); children = []; what = (text (98 ∷ [])) })) ∷ None ∷ []) 10 (6 ∷ 1 ∷ [])) (told ((Some (record { parent = None; children = (1 ∷ []); what = (element tags.Html None [] None []) })) ∷ (Some (record { parent = (Some 0); children = (5 ∷ 6 ∷ 8 ∷ []); what = (element tags.Body None [] None ((record { property = properties.Display; value = values.Keyword keywords.None; important = false; place = 20 }) ∷ (record { property = properties.Display; value = values.Keyword keywords.None; important = false; place = 21 }) ∷ (record { property = properties.Display; value = values.Keyword keywords.None; important = false; place = 10 }) ∷ (record { property = properties.Display; value = values.Keyword keywords.None; important = false; place = 11 }) ∷ [])) })) ∷ None ∷ (Some (record { parent = (Some 6); children = (4 ∷ []); what = (element tags.Div None [] None ((record { property = properties.Display; value = values.Keyword keywords.None; important = false; place = 22 }) ∷ [])) })) ∷ (Some (record { parent = (Some 3); children = []; what = (text (32 ∷ [])) })) ∷ (Some (record { parent = (Some 1); children = []; what = (text (122 ∷ 32 ∷ 50 ∷ [])) })) ∷ (Some (record { parent = (Some 1); children = (7 ∷ 3 ∷ []); what = (element tags.Span None [] (Some directions.Rtl) []) })) ∷ (Some (record { parent = (Some 6); children = []; what = (text (97 ∷ [])) })) ∷ (Some (record { parent = (Some 1); children = []; what = (text (98 ∷ [])) })) ∷ None ∷ []) 10 (1 ∷ 6 ∷ []))
unfolding numbers children_from below_levels numbered_from
a_move = refl

a_move_within : try (of ((Some (record { parent = None; children = (1 ∷ []); what = (element tags.Html None [] None []) })) ∷ (Some (record { parent = (Some 0); children = (3 ∷ 5 ∷ 6 ∷ []); what = (element tags.Body None [] None ((record { property = properties.Display; value = values.Keyword keywords.None; important = false; place = 10 }) ∷ (record { property = properties.Display; value = values.Keyword keywords.None; important = false; place = 11 }) ∷ (record { property = properties.Display; value = values.Keyword keywords.None; important = false; place = 1 }) ∷ [])) })) ∷ (Some (record { parent = (Some 3); children = []; what = (text (51 ∷ [])) })) ∷ (Some (record { parent = (Some 1); children = (2 ∷ []); what = (element tags.I None ((98 ∷ []) ∷ []) None ((record { property = properties.Display; value = values.Keyword keywords.None; important = false; place = 13 }) ∷ [])) })) ∷ None ∷ (Some (record { parent = (Some 1); children = []; what = (element tags.Br None [] None ((record { property = properties.Display; value = values.Keyword keywords.None; important = false; place = 23 }) ∷ [])) })) ∷ (Some (record { parent = (Some 1); children = []; what = (text (32 ∷ [])) })) ∷ []) 7) (move_to 5 1 0) ≡ tried (record { back = (exact_move 5 1 1); again = (exact_move 5 1 0) }) (told ((Some (record { parent = None; children = (1 ∷ []); what = (element tags.Html None [] None []) })) ∷ (Some (record { parent = (Some 0); children = (3 ∷ 5 ∷ 6 ∷ []); what = (element tags.Body None [] None ((record { property = properties.Display; value = values.Keyword keywords.None; important = false; place = 10 }) ∷ (record { property = properties.Display; value = values.Keyword keywords.None; important = false; place = 11 }) ∷ (record { property = properties.Display; value = values.Keyword keywords.None; important = false; place = 1 }) ∷ [])) })) ∷ (Some (record { parent = (Some 3); children = []; what = (text (51 ∷ [])) })) ∷ (Some (record { parent = (Some 1); children = (2 ∷ []); what = (element tags.I None ((98 ∷ []) ∷ []) None ((record { property = properties.Display; value = values.Keyword keywords.None; important = false; place = 13 }) ∷ [])) })) ∷ None ∷ (Some (record { parent = (Some 1); children = []; what = (element tags.Br None [] None ((record { property = properties.Display; value = values.Keyword keywords.None; important = false; place = 23 }) ∷ [])) })) ∷ (Some (record { parent = (Some 1); children = []; what = (text (32 ∷ [])) })) ∷ []) 7 (1 ∷ [])) (told ((Some (record { parent = None; children = (1 ∷ []); what = (element tags.Html None [] None []) })) ∷ (Some (record { parent = (Some 0); children = (5 ∷ 3 ∷ 6 ∷ []); what = (element tags.Body None [] None ((record { property = properties.Display; value = values.Keyword keywords.None; important = false; place = 10 }) ∷ (record { property = properties.Display; value = values.Keyword keywords.None; important = false; place = 11 }) ∷ (record { property = properties.Display; value = values.Keyword keywords.None; important = false; place = 1 }) ∷ [])) })) ∷ (Some (record { parent = (Some 3); children = []; what = (text (51 ∷ [])) })) ∷ (Some (record { parent = (Some 1); children = (2 ∷ []); what = (element tags.I None ((98 ∷ []) ∷ []) None ((record { property = properties.Display; value = values.Keyword keywords.None; important = false; place = 13 }) ∷ [])) })) ∷ None ∷ (Some (record { parent = (Some 1); children = []; what = (element tags.Br None [] None ((record { property = properties.Display; value = values.Keyword keywords.None; important = false; place = 23 }) ∷ [])) })) ∷ (Some (record { parent = (Some 1); children = []; what = (text (32 ∷ [])) })) ∷ []) 7 (1 ∷ []))
unfolding numbers children_from below_levels numbered_from
a_move_within = refl
