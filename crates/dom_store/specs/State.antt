-- The state of a document: its nodes under their numbers, and the tree that they are. DOM, 4.2, narrowed.
use Rattle.std.specs.Prelude.{ℕ, zero, suc, List, [], ◌∷◌, map, Option, Some, None, option_map, option_and_then, slice_get, ◌≡◌, ◌<◌, ⊤}
use Rattle.std.specs.List.{All}
use Rattle.std.specs.Ordering.{nat_cmp}
use Rattle.std.specs.String.{string_bytes}
use Rattle.std.specs.BTreeMap as keyed
use Rattle.slab.specs.Slab as slots
use Rattle.wm_modes.specs.declared.mode.Direction.{Direction}
use Rattle.html_tokens.specs.declared.tag.Tag.{Tag}
use Rattle.css_types.specs.declared.value.Declaration.{Declaration}
use Rattle.css_types.specs.Value.{HasSayable}
use Rattle.dom_store.specs.declared.document.Document.{Document}
use Rattle.dom_store.specs.declared.node.Node as code_node
use Rattle.dom_store.specs.declared.node.NodeKind as code_kind
use Rattle.dom_store.specs.declared.node.NodeKind.TheVariants as code_kinds

-- what a node is: an element with its own declarations, or a text
pub data What : Type 0 where
  element : (tag : Tag) (id : Option (List ℕ)) (classes : List (List ℕ)) (dir : Option Direction) (own : List Declaration) → What
  text : (letters : List ℕ) → What

-- a node: its parent, its children in order, and what it is
pub record Entry : Type 0 where
  pub parent : Option ℕ
  pub children : List ℕ
  pub what : What

-- which node lives under each number, and the number that is given next
pub record State : Type 0 where
  pub node_at : ℕ → Option Entry
  pub next : ℕ

-- the child at this index, the first at 0
abbrev pub child_at : State → (number index : ℕ) → Option ℕ
child_at state number index = option_and_then (λ entry. slice_get entry.children index) (state.node_at number)

-- `html` is at depth 1, a text counts as any node
abbrev pub greatest_depth : ℕ
greatest_depth = 64

-- ---- the line of a node: what it is, what its parent is, and so on up to `html`

abbrev pub line_with : (Option ℕ → List What) → Option Entry → List What
line_with above None = []
line_with above (Some entry) = entry.what ∷ above entry.parent

-- no more than `most` of them
unfoldable pub line_to : (most : ℕ) → State → Option ℕ → List What
line_to zero state number = []
line_to (suc most) state None = []
line_to (suc most) state (Some number) = line_with (line_to most state) (state.node_at number)

abbrev pub line : State → (number : ℕ) → List What
line state number = line_to greatest_depth state (Some number)

-- ---- the tree

-- nodes that stand one after the other, each with those inside it
pub data Tree : Type 0 where
  none : Tree
  node : (number : ℕ) (what : What) (inner next : Tree) → Tree

-- a node, where it lives, before those that follow it
abbrev pub tree_with : Option Entry → (number : ℕ) → (List ℕ → Tree) → (next : Tree) → Tree
tree_with None number below next = next
tree_with (Some entry) number below next = node number entry.what (below entry.children) next

-- the nodes of these numbers and all inside them, down to a depth
unfoldable pub tree_to : (depth : ℕ) → State → List ℕ → Tree
tree_to zero state numbers = none
tree_to (suc depth) state [] = none
tree_to (suc depth) state (number ∷ numbers) = tree_with (state.node_at number) number (tree_to depth state) (tree_to (suc depth) state numbers)

-- the tree of a document is that of `html`
abbrev pub tree_of : State → Tree
tree_of state = tree_to greatest_depth state (0 ∷ [])

-- ---- what holds of every document

abbrev pub IsElement : What → Type 0
IsElement (element tag id classes dir own) = ⊤
IsElement (text letters) = ⊥

abbrev pub IsEntryAt : State → (number : ℕ) → Entry → Type 0
IsEntryAt state number entry = state.node_at number ≡ Some entry

-- `html` has the number 0, and `body`, which alone stands in it, the number 1; both were drawn
pub record IsRooted (state : State) : Type 0 where
  pub html : (entry : Entry) × IsEntryAt state 0 entry × IsElement entry.what × (entry.parent ≡ None) × (entry.children ≡ 1 ∷ [])
  pub body : (entry : Entry) × IsEntryAt state 1 entry × IsElement entry.what × (entry.parent ≡ Some 0)
  pub drawn : 1 < state.next

-- the numbers of an element's own declarations are such as a style sheet can say
abbrev pub AreSaid : List Declaration → Type 0
AreSaid own = All (λ d. HasSayable d.value) own

abbrev pub IsSaid : What → Type 0
IsSaid (element tag id classes dir own) = AreSaid own
IsSaid (text letters) = ⊤

abbrev pub IsSaidState : State → Type 0
IsSaidState state = (number : ℕ) (entry : Entry) → IsEntryAt state number entry → IsSaid entry.what

-- ---- without where it lies in memory

abbrev pub what_of : code_kind.NodeKind → What
what_of (code_kinds.Element tag id classes dir declarations) = element tag (option_map (λ s. string_bytes s) id) (map (λ s. string_bytes s) classes.items) dir declarations.items
what_of (code_kinds.Text letters) = text (string_bytes letters)

abbrev pub entry_of : code_node.Node → Entry
entry_of n = record { parent = n.parent; children = n.children.items; what = what_of n.kind }

abbrev pub state_of : Document → State
state_of d = record { node_at = λ number. option_and_then (λ key. option_map entry_of (slots.get d.nodes key)) (keyed.get nat_cmp d.keys number); next = d.next }
