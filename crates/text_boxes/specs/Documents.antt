-- The text of a node of a document, set to other letters: in the document, and in its styled tree. DOM, 4.10.
use Rattle.std.specs.Prelude.{◌≡◌, ℕ, nat_eq, if◌then◌else◌, List, Some}
use Rattle.style_types.specs.Tree as styled
use Rattle.style_types.specs.Tree.{NodeKind, Nodes}
use Rattle.dom_store.specs.State as dom
use Rattle.dom_store.specs.State.{Entry, IsRooted, State}
use Rattle.dom_store.specs.Edits.{after, set_text}
use Rattle.tree_laws.specs.Reached.{IsReached}
use Rattle.tree_laws.specs.Wholeness.{IsWhole}
use Rattle.edit_scope.specs.Leaves.{TextsAreLeaves}

-- ---- in a document

-- a document has a text of these letters under this number
pub record HasLetters (state : State) (number : ℕ) (letters : List ℕ) : Type 0 where
  pub rooted : IsRooted state
  pub whole : IsWhole state
  pub reached : IsReached state
  pub leaves : TextsAreLeaves state
  pub entry : Entry
  pub here : state.node_at number ≡ Some entry
  pub text : entry.what ≡ dom.text letters

-- the document in which it has these
abbrev pub document_with : (number : ℕ) → (letters : List ℕ) → State → State
document_with number letters state = after state (set_text number letters)

-- ---- in a styled tree

abbrev pub kind_with : (number : ℕ) → (letters : List ℕ) → (node : ℕ) → NodeKind → NodeKind
kind_with number letters node styled.element = styled.element
kind_with number letters node styled.line_break = styled.line_break
kind_with number letters node (styled.text was) = styled.text (if nat_eq node number then letters else was)

-- the styled tree in which the text of this node has these letters
abbrev pub nodes_with : (number : ℕ) → (letters : List ℕ) → Nodes → Nodes
nodes_with number letters styled.none = styled.none
nodes_with number letters (styled.node node kind style inner next) =
    styled.node node (kind_with number letters node kind) style (nodes_with number letters inner) (nodes_with number letters next)
