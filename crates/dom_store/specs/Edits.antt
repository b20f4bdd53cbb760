-- Edits of the tree: the state after one, and the elements that it concerns. DOM, 4.2.3, narrowed.
use Rattle.std.specs.Prelude.{ℕ, ◌+◌, ◌-◌, if◌then◌else◌, List, [], ◌∷◌, ◌++◌, length, map, filter, take, drop, get_or, not, nat_eq, nat_lt, Option, Some, None, option_map, option_to_list, slice_get}
use Rattle.std.specs.List.{list_any}
use Rattle.css_types.specs.declared.value.Declaration.{Declaration}
use Rattle.html_read.specs.Values.{Node}
use Rattle.dom_store.specs.State.{What, element, text, Entry, State}
use Rattle.dom_store.specs.Opening.{children_from, what_of}
use Rattle.dom_store.specs.Standing.{parent_at, inclusive_descendants}

-- an edit, without where it lies in memory
pub data EditOf : Type 0 where
  set_text : (number : ℕ) (letters : List ℕ) → EditOf
  set_style : (number : ℕ) (own : List Declaration) → EditOf
  set_class : (number : ℕ) (words : List (List ℕ)) → EditOf
  insert : (parent index : ℕ) (nodes : List Node) (own : List (List Declaration)) → EditOf
  remove : (number : ℕ) → EditOf
  move_to : (number parent index : ℕ) → EditOf

-- ---- changes of one node

-- a node, where it lives, is changed so, and every other stays as it is
abbrev pub changed : State → (number : ℕ) → (Entry → Entry) → State
changed state number change = record { node_at = λ other. if nat_eq other number then option_map change (state.node_at other) else state.node_at other; next = state.next }

-- the same, where there is a node
abbrev pub changed_if : State → Option ℕ → (Entry → Entry) → State
changed_if state None change = state
changed_if state (Some number) change = changed state number change

abbrev pub with_own : List Declaration → What → What
with_own own (element tag id classes dir before) = element tag id classes dir own
with_own own (text letters) = text letters

abbrev pub with_classes : List (List ℕ) → What → What
with_classes words (element tag id classes dir own) = element tag id words dir own
with_classes words (text letters) = text letters

abbrev pub with_what : (What → What) → Entry → Entry
with_what change entry = record entry { what = change entry.what }

abbrev pub with_children : (List ℕ → List ℕ) → Entry → Entry
with_children change entry = record entry { children = change entry.children }

abbrev pub with_parent : (parent : ℕ) → Entry → Entry
with_parent parent entry = record entry { parent = Some parent }

-- ---- lists of children

abbrev pub without : (number : ℕ) → List ℕ → List ℕ
without number children = filter (λ child. not (nat_eq child number)) children

-- these numbers come at the index
abbrev pub with_put : (index : ℕ) → (numbers children : List ℕ) → List ℕ
with_put index numbers children = take index children ++ numbers ++ drop index children

-- ---- a node goes, with all below it

abbrev pub without_nodes : (numbers : List ℕ) → State → State
without_nodes numbers state = record { node_at = λ other. if list_any (nat_eq other) numbers then None else state.node_at other; next = state.next }

abbrev pub removed : State → (number : ℕ) → State
removed state number = without_nodes (inclusive_descendants state number) (changed_if state (parent_at state number) (with_children (without number)))

-- ---- a node is moved: it leaves its parent's children, and comes at the index among the others of the new one

abbrev pub with_moved : (number index : ℕ) → List ℕ → List ℕ
with_moved number index children = with_put index (number ∷ []) (without number children)

abbrev pub moved : State → (number parent index : ℕ) → State
moved state number parent index =
    let left = changed_if state (parent_at state number) (with_children (without number)) in
    changed (changed left parent (with_children (with_moved number index))) number (with_parent parent)

-- ---- nodes are inserted: each has as its number the next one and its place in the list

-- a node stands in one that is inserted too, or in this parent
abbrev pub parent_under : (parent next : ℕ) → Option ℕ → ℕ
parent_under parent next None = parent
parent_under parent next (Some place) = next + place

abbrev pub under : (parent next : ℕ) → List Node → List Node
under parent next nodes = map (λ node. record { parent = Some (parent_under parent next node.parent); kind = node.kind }) nodes

-- the inserted node at this place, with its own declarations
abbrev pub inserted_at : (nodes : List Node) (own : List (List Declaration)) (next place : ℕ) → Option Entry
inserted_at nodes own next place = option_map (λ node. record { parent = node.parent; children = children_from next (next + place) nodes; what = what_of node.kind (get_or own place []) }) (slice_get nodes place)

abbrev pub inserted : State → (parent index : ℕ) → List Node → List (List Declaration) → State
inserted state parent index nodes own =
    let placed = under parent state.next nodes in
    let put = changed state parent (with_children (with_put index (children_from state.next parent placed))) in
    record { node_at = λ other. if nat_lt other state.next then put.node_at other else inserted_at placed own state.next (other - state.next); next = state.next + length nodes }

-- ---- the state after an edit that isn't refused

abbrev pub after : State → EditOf → State
after state (set_text number letters) = changed state number (with_what (λ what. text letters))
after state (set_style number own) = changed state number (with_what (with_own own))
after state (set_class number words) = changed state number (with_what (with_classes words))
after state (insert parent index nodes own) = inserted state parent index nodes own
after state (remove number) = removed state number
after state (move_to number parent index) = moved state number parent index

-- ---- the concerned elements: those of which the children or the own styles are other than before

-- each once
abbrev pub both : Option ℕ → ℕ → List ℕ
both None new = new ∷ []
both (Some old) new = if nat_eq old new then new ∷ [] else old ∷ new ∷ []

abbrev pub concerned : State → EditOf → List ℕ
concerned state (set_text number letters) = option_to_list (parent_at state number)
concerned state (set_style number own) = number ∷ []
concerned state (set_class number words) = number ∷ []
concerned state (insert parent index nodes own) = parent ∷ []
concerned state (remove number) = option_to_list (parent_at state number)
concerned state (move_to number parent index) = both (parent_at state number) parent
