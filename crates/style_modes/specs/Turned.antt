-- A document that is set in a mode: `html` computes to it, and to sideways text, from which all below it inherit. CSS Writing Modes 4, 3.2 and 5.1.
use Rattle.std.specs.Prelude.{◌≡◌, ℕ, false, List}
use Rattle.css_types.specs.Rule.{Ruling}
use Rattle.style_types.specs.declared.style.Style.{Style}
use Rattle.style_types.specs.Initial.{initial}
use Rattle.style_types.specs.Style.{is_upright}
use Rattle.style_types.specs.Tree as styled
use Rattle.style_types.specs.Tree.{Nodes}
use Rattle.dom_store.specs.State as dom
use Rattle.dom_store.specs.State.{State, Tree, What, tree_of}
use Rattle.computed.specs.Step.{style_of}
use Rattle.style_tree.specs.Styling.{kind_of, root_style, styled_document, styled_in, unturned, winners_at}
use Rattle.mode_ways.specs.Ways.{Way, combine_of, mode_of, nodes_in, orientation_of, plain}
use Rattle.style_modes.specs.Turnable.{IsTurnable}

-- ---- a styled tree as it is where `html` inherits from this style

module _ (root : Style) (rules : List Ruling) (state : State) where
  abbrev pub html_under : Style
  html_under = style_of root (winners_at rules state 0 root)

  abbrev pub body_under : Style
  body_under = unturned html_under (winners_at rules state 1 html_under)

  abbrev pub with_body_under : (number : ℕ) → (html : What) → (inner : Tree) → Nodes
  with_body_under number html dom.none = styled.none
  with_body_under number html (dom.node body_number body inner next) =
      styled.node number (kind_of html) (root_style html_under body_under)
      (styled.node body_number (kind_of body) body_under (styled_in rules state body_under inner) styled.none) styled.none

  abbrev pub from_html_under : Tree → Nodes
  from_html_under dom.none = styled.none
  from_html_under (dom.node number html inner next) = with_body_under number html inner

  abbrev pub styled_under : Nodes
  styled_under = from_html_under (tree_of state)

-- ---- a document in a way

-- what `html` inherits in it: the initial style, but for the mode and what text does there
abbrev pub above : Way → Style
above way = record initial { mode = mode_of way; orientation = orientation_of way; combine = combine_of way }

abbrev pub turned_document : Way → List Ruling → State → Nodes
turned_document way rules state = styled_under (above way) rules state

-- ---- laws

-- in each way in which no text is upright its styled tree is that of the document, in that way
abbrev pub TurnableDocumentsTurn : Type 0
TurnableDocumentsTurn = (way : Way) (rules : List Ruling) (state : State) → is_upright (orientation_of way) ≡ false → IsTurnable rules state
    → turned_document way rules state ≡ nodes_in way (styled_document rules state)

-- and in that of a document that says nothing of modes it stays as it is
abbrev pub TurnableDocumentsArePlain : Type 0
TurnableDocumentsArePlain = (rules : List Ruling) (state : State) → IsTurnable rules state → nodes_in plain (styled_document rules state) ≡ styled_document rules state
