-- The elements that an edit of an open document touches. Those in its scope may have other styles or other texts after it; those above them
-- may be laid out in another way. CSS 2, 9.2.
use Rattle.std.specs.Prelude.{ℕ, zero, suc, nat_lt, Bool, true, false, ◌&&◌, List, [], ◌∷◌, ◌++◌, map, filter, flat_map, option_to_list}
use Rattle.style_types.specs.declared.style.Display.{Display}
use Rattle.style_types.specs.declared.style.Display.TheVariants.{Block, Inline, InlineBlock, FlowRoot, Hidden}
use Rattle.style_types.specs.declared.style.Style.{Style}
use Rattle.css_types.specs.Rule.{Ruling}
use Rattle.dom_store.specs.State as dom
use Rattle.dom_store.specs.State.{greatest_depth, line}
use Rattle.dom_store.specs.Standing.{ancestors_to, inclusive_ancestors, inclusive_descendants, parent_at}
use Rattle.dom_store.specs.Building.{tops_from}
use Rattle.dom_store.specs.Edits as tree
use Rattle.dom_store.specs.Edits.{EditOf, set_text, set_style, set_class, insert, remove, move_to, concerned}
use Rattle.dom_store.specs.Refusals.{is_element, is_of, may_hold}
use Rattle.style_tree.specs.Styling.{body_style, html_style, root_style}
use Rattle.box_limits.specs.Lines.{place_on}
use Rattle.edits.specs.Change.{Change, of_tree, metric, retire, rule, unrule}
use Rattle.edits.specs.Edited.{after}
use Rattle.edits.specs.State.{State}

-- ---- styles of elements

-- the style of which an element's boxes are made: that of `html` has the mode of `body`, any other is told by the line of the element
abbrev pub element_style : List Ruling → dom.State → (number : ℕ) → Style
element_style rules state zero = root_style (html_style rules state) (body_style rules state)
element_style rules state (suc number) = (place_on rules (line state (suc number))).style

abbrev pub display_at : List Ruling → dom.State → (number : ℕ) → Display
display_at rules state number = (element_style rules state number).display

-- boxes of these displays are blocks or atoms
abbrev pub is_boxed : Display → Bool
is_boxed Block = true
is_boxed Inline = false
is_boxed InlineBlock = true
is_boxed FlowRoot = true
is_boxed Hidden = false

-- an element has a box of its own, which holds blocks or a paragraph; a `br` has none
abbrev pub has_box : List Ruling → dom.State → (number : ℕ) → Bool
has_box rules state number = is_of may_hold state number && is_boxed (display_at rules state number)

-- ---- holders

abbrev pub unless_inline : Display → (number above : ℕ) → ℕ
unless_inline Block number above = number
unless_inline Inline number above = above
unless_inline InlineBlock number above = number
unless_inline FlowRoot number above = number
unless_inline Hidden number above = number

-- the first of these that isn't inline; `html` never is
unfoldable pub holder_in : (display : ℕ → Display) → (ancestors : List ℕ) → ℕ
holder_in display [] = 0
holder_in display (number ∷ above) = unless_inline (display number) number (holder_in display above)

-- the holder of a node: the nearest of it and the elements above it that isn't inline. Its box, if it has one, holds what is inline there.
abbrev pub holder : List Ruling → dom.State → (number : ℕ) → ℕ
holder rules state number = holder_in (display_at rules state) (inclusive_ancestors state number)

abbrev pub holders : List Ruling → dom.State → (numbers : List ℕ) → List ℕ
holders rules state numbers = map (holder rules state) numbers

-- the holder of what stands beside a node
abbrev pub holder_above : List Ruling → dom.State → (number : ℕ) → ℕ
holder_above rules state number = holder_in (display_at rules state) (ancestors_to greatest_depth state (parent_at state number))

-- ---- the scope of an edit

-- an element and all elements below it; none for a text
abbrev pub elements_below : dom.State → (number : ℕ) → List ℕ
elements_below state number = filter (is_of is_element state) (inclusive_descendants state number)

abbrev pub every_element : dom.State → List ℕ
every_element state = elements_below state 0

-- the topmost of the nodes that an edit inserts, and the one that it moves
abbrev pub brought : dom.State → EditOf → List ℕ
brought state (set_text number letters) = []
brought state (set_style number own) = []
brought state (set_class number words) = []
brought state (insert parent index nodes own) = tops_from state.next nodes
brought state (remove number) = []
brought state (move_to number parent index) = number ∷ []

-- other contents: the holders of the concerned elements, and the elements that come or are moved, with those below them
abbrev pub content_scope : List Ruling → (next : dom.State) → (concerned brought : List ℕ) → List ℕ
content_scope rules next concerned brought = holders rules next concerned ++ flat_map (elements_below next) brought

-- other styles: the element and those below it, and the holder of its parent; all where `html` or `body` is styled
abbrev pub styled_scope : (outermost : Bool) → List Ruling → (next : dom.State) → (number : ℕ) → List ℕ
styled_scope true rules next number = every_element next
styled_scope false rules next number = elements_below next number ++ holders rules next (option_to_list (parent_at next number))

abbrev pub tree_scope : List Ruling → dom.State → EditOf → List ℕ
tree_scope rules state (set_text number letters) =
    content_scope rules (tree.after state (set_text number letters)) (concerned state (set_text number letters)) (brought state (set_text number letters))
tree_scope rules state (set_style number own) = styled_scope (nat_lt number 2) rules (tree.after state (set_style number own)) number
tree_scope rules state (set_class number words) = styled_scope (nat_lt number 2) rules (tree.after state (set_class number words)) number
tree_scope rules state (insert parent index nodes own) =
    content_scope rules (tree.after state (insert parent index nodes own)) (concerned state (insert parent index nodes own)) (brought state (insert parent index nodes own))
tree_scope rules state (remove number) = content_scope rules (tree.after state (remove number)) (concerned state (remove number)) (brought state (remove number))
tree_scope rules state (move_to number parent index) =
    content_scope rules (tree.after state (move_to number parent index)) (concerned state (move_to number parent index)) (brought state (move_to number parent index))

-- an edit of faces or of rules has every element in its scope
abbrev pub scope : State → Change → List ℕ
scope state (of_tree edit) = tree_scope state.rules state.tree edit
scope state (metric face c upright value) = every_element state.tree
scope state (retire face) = every_element state.tree
scope state (rule rules) = every_element state.tree
scope state (unrule index) = every_element state.tree

-- ---- the elements that it touches

-- those in its scope, and all elements above them after it
abbrev pub reached : State → Change → List ℕ
reached state change = flat_map (inclusive_ancestors (after state change).tree) (scope state change)
