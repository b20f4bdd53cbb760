-- The style of each node of a document. CSS 2, 6.1; CSS Writing Modes 4, 3.2 and 8.
use Rattle.std.specs.Prelude.{Some, ◌≡◌, ⊤, ℕ, List}
use Rattle.wm_modes.specs.declared.mode.Direction.{Direction}
use Rattle.wm_modes.specs.declared.mode.Direction.TheVariants.{Rtl}
use Rattle.wm_modes.specs.Sides.{used_direction}
use Rattle.html_tokens.specs.declared.tag.Tag.{Tag}
use Rattle.html_tokens.specs.declared.tag.Tag.TheVariants.{Br}
use Rattle.style_types.specs.declared.style.Display.TheVariants.{FlowRoot}
use Rattle.style_types.specs.declared.style.Style.{Style}
use Rattle.style_types.specs.declared.style.TextOrientation.{TextOrientation}
use Rattle.style_types.specs.declared.style.TextOrientation.TheVariants.{Mixed, Upright}
use Rattle.style_types.specs.Initial.{initial}
use Rattle.css_types.specs.Rule.{Ruling}
use Rattle.style_types.specs.Style.{IsBounded, is_upright}
use Rattle.style_types.specs.Tree as styled
use Rattle.style_types.specs.Tree.{Nodes, NodeKind}
use Rattle.dom_store.specs.State as dom
use Rattle.dom_store.specs.State.{What, Entry, State, Tree, line, tree_of, tree_to}
use Rattle.cascade.specs.Winners.{winners}
use Rattle.computed.specs.Winners.{Winning}
use Rattle.computed.specs.Step.{style_of}

-- ---- a node below `body`

abbrev pub kind_by : Tag → NodeKind
kind_by Br = styled.line_break
kind_by tag = styled.element

abbrev pub kind_of : What → NodeKind
kind_of (dom.element tag id classes dir own) = kind_by tag
kind_of (dom.text letters) = styled.text letters

-- the values that win for a node of this number
abbrev pub winners_at : List Ruling → State → (number : ℕ) → (parent : Style) → Winning
winners_at rules state number parent = winners rules (line state number) parent

-- an element has its own style, a text that of its parent
abbrev pub style_at : List Ruling → State → (number : ℕ) → What → (parent : Style) → Style
style_at rules state number (dom.element tag id classes dir own) parent = style_of parent (winners_at rules state number parent)
style_at rules state number (dom.text letters) parent = parent

-- nodes that stand one after the other in an element of this style
unfoldable pub styled_in : List Ruling → State → (parent : Style) → Tree → Nodes
styled_in rules state parent dom.none = styled.none
styled_in rules state parent (dom.node number what inner next) =
    styled.node number (kind_of what) (style_at rules state number what parent)
    (styled_in rules state (style_at rules state number what parent) inner) (styled_in rules state parent next)

-- one of them before those that follow it
abbrev pub styled_one : List Ruling → State → (parent : Style) → (number : ℕ) → What → (inner : Tree) → (next : Nodes) → Nodes
styled_one rules state parent number what inner next =
    styled.node number (kind_of what) (style_at rules state number what parent)
    (styled_in rules state (style_at rules state number what parent) inner) next

-- ---- `html` and `body`

-- the computed style of `html`
abbrev pub html_style : List Ruling → State → Style
html_style rules state = style_of initial (winners_at rules state 0 initial)

-- `body` has the mode that its own winners give it; against a parent of this mode it never turns
abbrev pub unturned : (html : Style) → Winning → Style
unturned html winners = style_of (record html { mode = (style_of html winners).mode }) winners

abbrev pub body_style : List Ruling → State → Style
body_style rules state = unturned (html_style rules state) (winners_at rules state 1 (html_style rules state))

-- upright text can't be set from right to left
abbrev pub orientation_in : Direction → TextOrientation → TextOrientation
orientation_in Rtl Upright = Mixed
orientation_in dir orientation = orientation

abbrev pub direction_of : Style → Direction
direction_of style = used_direction style.mode (is_upright style.orientation) style.direction

-- the boxes of `html` are made from its computed style in the used mode and direction of `body`; it is always a block
-- and a flow root
abbrev pub root_style : (html body : Style) → Style
root_style html body = record html {
  display = FlowRoot;
  mode = body.mode;
  direction = direction_of body;
  orientation = orientation_in (direction_of body) html.orientation;
}

-- ---- the two outermost nodes

-- `body` in this style, with all inside it
abbrev pub IsBodyOf : List Ruling → State → Style → Nodes → Type 0
IsBodyOf rules state style made = (entry : Entry) → state.node_at 1 ≡ Some entry
    → made ≡ styled.node 1 (kind_of entry.what) style (styled_in rules state style (tree_to 62 state entry.children)) styled.none

-- `html` in this style, with `body` inside it
abbrev pub IsHtmlOf : State → Style → (body : Nodes) → Nodes → Type 0
IsHtmlOf state style body made = (entry : Entry) → state.node_at 0 ≡ Some entry → made ≡ styled.node 0 (kind_of entry.what) style body styled.none

-- ---- the document

abbrev pub with_body : List Ruling → State → (number : ℕ) → (html : What) → (inner : Tree) → Nodes
with_body rules state number html dom.none = styled.none
with_body rules state number html (dom.node body_number body inner next) =
    styled.node number (kind_of html) (root_style (html_style rules state) (body_style rules state))
    (styled.node body_number (kind_of body) (body_style rules state) (styled_in rules state (body_style rules state) inner) styled.none) styled.none

abbrev pub from_html : List Ruling → State → Tree → Nodes
from_html rules state dom.none = styled.none
from_html rules state (dom.node number html inner next) = with_body rules state number html inner

-- `html`, in it `body`, and in this all others, each with its style, under these author's rules
abbrev pub styled_document : List Ruling → State → Nodes
styled_document rules state = from_html rules state (tree_of state)

-- ---- numbers

-- the numbers of all styles are within their bounds
unfoldable pub AreBounded : Nodes → Type 0
AreBounded styled.none = ⊤
AreBounded (styled.node number kind style inner next) = IsBounded style × AreBounded inner × AreBounded next
