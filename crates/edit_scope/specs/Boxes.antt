-- The box of an element of an open document. CSS 2, 9.2.1.
use Rattle.std.specs.Prelude.{◌≡◌, ℕ, zero, suc, List, [], ◌∷◌}
use Rattle.fragment_types.specs.declared.item.BoxName.{BoxName}
use Rattle.style_types.specs.declared.style.Style.{Style}
use Rattle.style_types.specs.Tree as styled
use Rattle.style_types.specs.Tree.{Nodes}
use Rattle.css_types.specs.Rule.{Ruling}
use Rattle.dom_store.specs.State as dom
use Rattle.dom_store.specs.State.{IsRooted, State, Tree, tree_to}
use Rattle.dom_store.specs.Standing.{children_at}
use Rattle.style_tree.specs.Styling.{body_style, kind_of, styled_document, styled_in}
use Rattle.box_gen.specs.Boxes.{content, made, root_boxes}
use Rattle.box_gen.specs.Tree.{Boxes, Content, none, box}
use Rattle.edit_scope.specs.Scope.{element_style}

-- `body`, which alone stands in `html`, with all inside it
abbrev pub body_in : List Ruling → State → Tree → Nodes
body_in rules state dom.none = styled.none
body_in rules state (dom.node number body inner next) = styled.node number (kind_of body) (body_style rules state) (styled_in rules state (body_style rules state) inner) styled.none

-- what stands in an element, down to so many levels below it
abbrev pub inside_of : List Ruling → State → (depth number : ℕ) → Nodes
inside_of rules state depth zero = body_in rules state (tree_to depth state (children_at state 0))
inside_of rules state depth (suc number) = styled_in rules state (element_style rules state (suc number)) (tree_to depth state (children_at state (suc number)))

-- the box of an element with all inside it
abbrev pub box_of : List Ruling → State → (depth number : ℕ) → Boxes
box_of rules state depth number = made number (element_style rules state number) (content (inside_of rules state depth number))

-- ---- without the boxes of others

-- a box without those inside it
pub record Shell : Type 0 where
  pub name : BoxName
  pub style : Style
  pub content : Content

-- a box of an ordinal above 0 is an anonymous block
abbrev pub if_anonymous : (ordinal : ℕ) → Shell → List Shell → List Shell
if_anonymous zero shell others = others
if_anonymous (suc ordinal) shell others = shell ∷ others

-- the anonymous blocks among boxes that stand one after the other
unfoldable pub anonymous_among : Boxes → List Shell
anonymous_among none = []
anonymous_among (box name style content inner next) = if_anonymous name.ordinal (record { name = name; style = style; content = content }) (anonymous_among next)

-- a box and the anonymous blocks that it holds
abbrev pub own_boxes : Boxes → List Shell
own_boxes none = []
own_boxes (box name style content inner next) = record { name = name; style = style; content = content } ∷ anonymous_among inner

-- ---- a law

-- the boxes of a page are the box of `html`
abbrev pub PagesAreBoxesOfHtml : Type 0
PagesAreBoxesOfHtml = (rules : List Ruling) (state : State) → IsRooted state → root_boxes (styled_document rules state) ≡ box_of rules state 63 0
