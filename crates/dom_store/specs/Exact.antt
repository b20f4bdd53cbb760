-- Exact edits: steps of a history down and up again, in which each node has the number that it had. DOM, 4.2.3, narrowed.
use Rattle.std.specs.Prelude.{ℕ, List, [], ◌∷◌, map, filter, flat_map, not, nat_eq, string_bytes, Option, Some, option_map}
use Rattle.std.specs.List.{find, list_any}
use Rattle.std.specs.Option.{option_or}
use Rattle.css_types.specs.declared.value.Declaration.{Declaration}
use Rattle.dom_store.specs.declared.exact.ExactEdit as code
use Rattle.dom_store.specs.declared.exact.ExactEdit.TheVariants as exacts
use Rattle.dom_store.specs.declared.exact.Numbered as code_numbered
use Rattle.dom_store.specs.State.{What, Entry, State, what_of}
use Rattle.dom_store.specs.Standing.{inclusive_descendants}
use Rattle.dom_store.specs.Edits.{set_text, set_style, set_class, move_to, after, changed, concerned, with_children, with_put, without_nodes}

-- a node with its number and its parent; its children are those that name it
pub record NumberedOf : Type 0 where
  pub number : ℕ
  pub parent : ℕ
  pub what : What

-- an exact edit, without where it lies in memory
pub data ExactEditOf : Type 0 where
  exact_text : (number : ℕ) (letters : List ℕ) → ExactEditOf
  exact_style : (number : ℕ) (own : List Declaration) → ExactEditOf
  exact_class : (number : ℕ) (words : List (List ℕ)) → ExactEditOf
  exact_move : (number parent index : ℕ) → ExactEditOf
  take_nodes : (parent : ℕ) (numbers : List ℕ) → ExactEditOf
  restore : (parent index : ℕ) (nodes : List NumberedOf) → ExactEditOf

-- ---- children of a parent are taken, each with all below it

abbrev pub without_each : (numbers children : List ℕ) → List ℕ
without_each numbers children = filter (λ child. not (list_any (nat_eq child) numbers)) children

abbrev pub taken : State → (parent : ℕ) → (numbers : List ℕ) → State
taken state parent numbers = without_nodes (flat_map (inclusive_descendants state) numbers) (changed state parent (with_children (without_each numbers)))

-- ---- nodes that went stand again where they stood

-- those that have this parent, in order
abbrev pub numbers_under : (parent : ℕ) → List NumberedOf → List ℕ
numbers_under parent nodes = map (λ node. node.number) (filter (λ node. nat_eq parent node.parent) nodes)

abbrev pub entry_among : List NumberedOf → NumberedOf → Entry
entry_among nodes node = record { parent = Some node.parent; children = numbers_under node.number nodes; what = node.what }

-- the node of this number, where it is one of them
abbrev pub numbered_at : List NumberedOf → (number : ℕ) → Option Entry
numbered_at nodes number = option_map (entry_among nodes) (find (λ node. nat_eq number node.number) nodes)

abbrev pub restored : State → (parent index : ℕ) → List NumberedOf → State
restored state parent index nodes =
    let put = changed state parent (with_children (with_put index (numbers_under parent nodes))) in
    record { node_at = λ number. option_or (numbered_at nodes number) (put.node_at number); next = state.next }

-- ---- the state after an exact edit, and the elements that it concerns: the next number stays

abbrev pub exactly : State → ExactEditOf → State
exactly state (exact_text number letters) = after state (set_text number letters)
exactly state (exact_style number own) = after state (set_style number own)
exactly state (exact_class number words) = after state (set_class number words)
exactly state (exact_move number parent index) = after state (move_to number parent index)
exactly state (take_nodes parent numbers) = taken state parent numbers
exactly state (restore parent index nodes) = restored state parent index nodes

abbrev pub concerned_exactly : State → ExactEditOf → List ℕ
concerned_exactly state (exact_text number letters) = concerned state (set_text number letters)
concerned_exactly state (exact_style number own) = concerned state (set_style number own)
concerned_exactly state (exact_class number words) = concerned state (set_class number words)
concerned_exactly state (exact_move number parent index) = concerned state (move_to number parent index)
concerned_exactly state (take_nodes parent numbers) = parent ∷ []
concerned_exactly state (restore parent index nodes) = parent ∷ []

-- ---- without where it lies in memory

abbrev pub numbered_as : code_numbered.Numbered → NumberedOf
numbered_as node = record { number = node.number; parent = node.parent; what = what_of node.kind }

abbrev pub exact_of : code.ExactEdit → ExactEditOf
exact_of (exacts.Text number letters) = exact_text number (string_bytes letters)
exact_of (exacts.Style number own) = exact_style number own.items
exact_of (exacts.Class number words) = exact_class number (map (λ word. string_bytes word) words.items)
exact_of (exacts.Move number parent index) = exact_move number parent index
exact_of (exacts.Take parent numbers) = take_nodes parent numbers.items
exact_of (exacts.Restore parent index nodes) = restore parent index (map numbered_as nodes.items)
