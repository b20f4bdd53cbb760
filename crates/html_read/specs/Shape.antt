-- The shape of a list of nodes: each node but the first stands in a node before it.
use Rattle.std.specs.Prelude.{◌≡◌, ◌≢◌, ◌⊎◌, ℕ, ◌+◌, ◌<◌, ◌≤◌, Bool, true, false, List, [], ◌∷◌, ◌++◌, length, Option, Some, None, ⊤}
use Rattle.std.specs.List.{slice_get}
use Rattle.html_tokens.specs.Text.{IsOfRepertoire}
use Rattle.html_tokens.specs.declared.tag.Tag.{Tag}
use Rattle.html_tokens.specs.declared.tag.Tag.TheVariants.{Html, Body, Br}
use Rattle.html_read.specs.Values.{Acting, Kind, Node, element, text, is_text}

-- this node has this place in the list
abbrev pub IsNodeAt : List Node → (place : ℕ) → Node → Type 0
IsNodeAt nodes place node = slice_get nodes place ≡ Some node

-- the node at this place is an element other than `br`
abbrev pub IsHolder : List Node → (place : ℕ) → Type 0
IsHolder nodes place = (node : Node) × (tag : Tag) × (acting : Acting) × IsNodeAt nodes place node × (node.kind ≡ element tag acting) × (tag ≡ Br → ⊥)

-- its parent stands before it in the list, at `lowest` or behind that, and is an element other than `br`
abbrev pub StandsIn : List Node → (lowest place : ℕ) → Node → Type 0
StandsIn nodes lowest place node = (parent : ℕ) × (node.parent ≡ Some parent) × (lowest ≤ parent) × (parent < place) × IsHolder nodes parent

-- The nodes of a document: first `html`, which alone has no parent, then `body`, which alone stands in `html`. Each
-- other node stands in `body` or in an element within it.
pub record IsShaped (nodes : List Node) : Type 0 where
  pub html : (acting : Acting) × IsNodeAt nodes 0 (record { parent = None; kind = element Html acting })
  pub body : (acting : Acting) × IsNodeAt nodes 1 (record { parent = Some 0; kind = element Body acting })
  pub others : (place : ℕ) (node : Node) → 2 ≤ place → IsNodeAt nodes place node → StandsIn nodes 1 place node

-- The nodes of a fragment: each stands in nothing or in an element of the fragment.
pub record IsFragmentShaped (nodes : List Node) : Type 0 where
  pub each : (place : ℕ) (node : Node) → IsNodeAt nodes place node → (node.parent ≡ None) ⊎ StandsIn nodes 0 place node

-- ---- document order

-- the innermost of the elements that are open
abbrev pub innermost : List ℕ → Option ℕ
innermost [] = None
innermost (number ∷ opened) = Some number

-- an element is open behind its start tag; a text never is
abbrev pub with_opened : Kind → (place : ℕ) → List ℕ → List ℕ
with_opened (element tag acting) place opened = place ∷ opened
with_opened (text letters) place opened = opened

-- a text isn't empty, and directly behind another text only where the element that this one stands in was closed
abbrev pub MayFollow : (after : Bool) → (closed : List ℕ) → Kind → Type 0
MayFollow after closed (element tag acting) = ⊤
MayFollow after closed (text letters) = (letters ≢ []) × (after ≡ true → closed ≢ [])

-- Nodes from this place on, where these elements are open, the innermost first, and a text stands before them or not:
-- each closes some of the open elements from the inside out, and stands in the innermost of the others.
abbrev pub AreInOrder : (opened : List ℕ) → (after : Bool) → (place : ℕ) → List Node → Type 0
AreInOrder opened after place [] = ⊤
AreInOrder opened after place (node ∷ nodes) = (closed still : List ℕ) × (opened ≡ closed ++ still) × (node.parent ≡ innermost still)
    × MayFollow after closed node.kind × AreInOrder (with_opened node.kind place still) (is_text node.kind) (place + 1) nodes

-- the nodes of a document or of a fragment, in document order
abbrev pub IsInDocumentOrder : List Node → Type 0
IsInDocumentOrder nodes = AreInOrder [] false 0 nodes

-- ---- texts

-- No text is empty, each has characters of the repertoire alone, and no two stand side by side in one parent.
pub record AreTexts (nodes : List Node) : Type 0 where
  pub some : (place : ℕ) (node : Node) (letters : List ℕ) → IsNodeAt nodes place node → node.kind ≡ text letters → letters ≢ []
  pub repertoire : (place : ℕ) (node : Node) (letters : List ℕ) → IsNodeAt nodes place node → node.kind ≡ text letters → IsOfRepertoire letters
  pub apart : (place : ℕ) (one two : Node) → IsNodeAt nodes place one → IsNodeAt nodes (place + 1) two → is_text one.kind ≡ true → is_text two.kind ≡ true → one.parent ≢ two.parent

abbrev pub kind_bytes : Kind → ℕ
kind_bytes (element tag acting) = 0
kind_bytes (text letters) = length letters

-- the bytes of all texts together
abbrev pub text_bytes : List Node → ℕ
text_bytes [] = 0
text_bytes (node ∷ nodes) = kind_bytes node.kind + text_bytes nodes
