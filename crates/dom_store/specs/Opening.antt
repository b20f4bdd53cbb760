-- The state that a document begins with: its nodes as they were read, each with its own declarations.
use Rattle.std.specs.Prelude.{◌≡◌, ℕ, ◌+◌, ◌<◌, ◌≤◌, ◌^◌, nat_eq, Bool, true, false, List, [], ◌∷◌, ◌++◌, length, get_or, slice_get, Option, Some, None, Result, Ok, Err, ⊤}
use Rattle.std.specs.List.{All}
use Rattle.css_types.specs.declared.value.Declaration.{Declaration}
use Rattle.html_read.specs.Values as html
use Rattle.html_read.specs.Values.{Acting, Kind, Node}
use Rattle.dom_store.specs.declared.document.Document.{Document}
use Rattle.dom_store.specs.declared.error.EditError.{EditError}
use Rattle.dom_store.specs.declared.error.EditError.TheVariants.{TooManyNodes, TooDeep, Memory}
use Rattle.dom_store.specs.State.{What, element, text, Entry, State, greatest_depth, state_of}

-- ---- a node's number is its place in the list

abbrev pub put_if : Bool → ℕ → List ℕ → List ℕ
put_if true place others = place ∷ others
put_if false place others = others

-- its parent is the node at this place
abbrev pub stands_in : (place : ℕ) → Option ℕ → Bool
stands_in place None = false
stands_in place (Some parent) = nat_eq place parent

-- the places, counted from `at`, of the nodes whose parent is the node at this place
unfoldable pub children_from : (at place : ℕ) → List Node → List ℕ
children_from at place [] = []
children_from at place (node ∷ nodes) = put_if (stands_in place node.parent) at (children_from (at + 1) place nodes)

abbrev pub what_of : Kind → (own : List Declaration) → What
what_of (html.element tag acting) own = element tag acting.id acting.classes acting.dir own
what_of (html.text letters) own = text letters

-- the node at this place, with its own declarations
abbrev pub entry_at : List Node → List (List Declaration) → (place : ℕ) → Option Node → Option Entry
entry_at nodes own place None = None
entry_at nodes own place (Some node) = Some (record { parent = node.parent; children = children_from 0 place nodes; what = what_of node.kind (get_or own place []) })

abbrev pub opened : List Node → List (List Declaration) → State
opened nodes own = record { node_at = λ number. entry_at nodes own number (slice_get nodes number); next = length nodes }

-- ---- depths

-- a node is one deeper than its parent, of which the depth is known
abbrev pub depth_in : (before : List ℕ) → (parent : Option ℕ) → ℕ
depth_in before None = 1
depth_in before (Some parent) = get_or before parent 0 + 1

-- the depths of the nodes behind those of which they are known
unfoldable pub depths_from : (before : List ℕ) → List Node → List ℕ
depths_from before [] = before
depths_from before (node ∷ nodes) = depths_from (before ++ depth_in before node.parent ∷ []) nodes

abbrev pub depths : List Node → List ℕ
depths nodes = depths_from [] nodes

-- the node at this place stands too deep
abbrev pub IsTooDeep : List Node → (place : ℕ) → Type 0
IsTooDeep nodes place = (depth : ℕ) × (slice_get (depths nodes) place ≡ Some depth) × (greatest_depth < depth)

-- ---- the answers

-- how many nodes may live
abbrev pub greatest_count : ℕ
greatest_count = 2 ^ 16

-- under each number the same node, and the same next number
pub record AreSame (one other : State) : Type 0 where
  pub nodes : (number : ℕ) → one.node_at number ≡ other.node_at number
  pub next : one.next ≡ other.next

-- a document where nothing is past a limit, else the least number that is; the count of nodes is judged first
abbrev pub Opens : List Node → List (List Declaration) → Result Document EditError → Type 0
Opens nodes own (Ok document) = (length nodes ≤ greatest_count) × All (λ depth. depth ≤ greatest_depth) (depths nodes) × AreSame (state_of document) (opened nodes own)
Opens nodes own (Err (TooManyNodes number)) = (greatest_count < length nodes) × (number ≡ greatest_count)
Opens nodes own (Err (TooDeep number)) = (length nodes ≤ greatest_count) × IsTooDeep nodes number × ((other : ℕ) → IsTooDeep nodes other → number ≤ other)
Opens nodes own (Err Memory) = ⊤
Opens nodes own (Err other) = ⊥
