-- Steps on the way to the state that a document begins with.
use Rattle.std.specs.Prelude.{◌≡◌, ◌≢◌, ℕ, ◌+◌, ◌-◌, ◌<◌, ◌≤◌, if◌then◌else◌, nat_lt, is_none, List, [], ◌∷◌, length, map, get_or, slice_get, Option, Some, None, Result, Ok, Err, ⊤}
use Rattle.std.specs.List.{All}
use Rattle.std.specs.Global.{Vec}
use Rattle.css_types.specs.declared.value.Declaration.{Declaration}
use Rattle.html_read.specs.Values.{Node}
use Rattle.dom_store.specs.declared.error.EditError.{EditError}
use Rattle.dom_store.specs.declared.error.EditError.TheVariants.{TooManyNodes, TooDeep, Memory}
use Rattle.dom_store.specs.State.{Entry, State, greatest_depth}
use Rattle.dom_store.specs.Opening.{IsTooDeep, depths, put_if}
use Rattle.dom_store.specs.Edits.{inserted_at, under}

-- each node's parent stands before it
pub record FollowParents (nodes : List Node) : Type 0 where
  pub each : (place parent : ℕ) (node : Node) → slice_get nodes place ≡ Some node → node.parent ≡ Some parent → parent < place

-- what is said of depths: that none is past the limit, or which is the first past it
abbrev pub JudgesDepths : List Node → Result ⊤ EditError → Type 0
JudgesDepths nodes (Ok _) = All (λ depth. depth ≤ greatest_depth) (depths nodes)
JudgesDepths nodes (Err (TooManyNodes number)) = ⊥
JudgesDepths nodes (Err (TooDeep number)) = IsTooDeep nodes number × ((other : ℕ) → IsTooDeep nodes other → number ≤ other)
JudgesDepths nodes (Err Memory) = ⊤
JudgesDepths nodes (Err other) = ⊥

-- the first node that stands too deep, where those that stand in no other are one deeper than this
abbrev pub FindsTooDeep : (above : ℕ) → List Node → Option ℕ → Type 0
FindsTooDeep above nodes None = All (λ depth. above + depth ≤ greatest_depth) (depths nodes)
FindsTooDeep above nodes (Some place) = (depth : ℕ) × (slice_get (depths nodes) place ≡ Some depth) × (greatest_depth < above + depth)
    × ((other lesser : ℕ) → other < place → slice_get (depths nodes) other ≡ Some lesser → above + lesser ≤ greatest_depth)

-- the numbers in the list at this place
abbrev pub numbers_at : List (Vec ℕ) → (place : ℕ) → List ℕ
numbers_at lists place = get_or (map (λ list. list.items) lists) place []

-- the next number is given to this node, and every other number keeps its own
pub record Adds (old new : State) (entry : Entry) : Type 0 where
  pub here : new.node_at old.next ≡ Some entry
  pub others : (number : ℕ) → number ≢ old.next → new.node_at number ≡ old.node_at number
  pub next : new.next ≡ old.next + 1

-- the nodes below the next number are those of the other state
pub record IsFilledFrom (whole state : State) : Type 0 where
  pub below : (number : ℕ) → number < state.next → state.node_at number ≡ whole.node_at number
  pub above : (number : ℕ) → state.next ≤ number → state.node_at number ≡ None

-- this number is given next
abbrev pub with_next : (next : ℕ) → State → State
with_next next state = record { node_at = state.node_at; next = next }

-- nodes may have been given numbers, and every earlier node is what it was
pub record Grows (old new : State) : Type 0 where
  pub below : (number : ℕ) → number < old.next → new.node_at number ≡ old.node_at number
  pub next : old.next ≤ new.next

-- the nodes that stand in no other, the first node having this number
unfoldable pub tops_from : (at : ℕ) → List Node → List ℕ
tops_from at [] = []
tops_from at (node ∷ nodes) = put_if (is_none node.parent) at (tops_from (at + 1) nodes)

-- the inserted nodes live, and the children of the one in which they stand are what they were
abbrev pub added_under : State → (parent : ℕ) → List Node → List (List Declaration) → State
added_under state parent nodes own = record { node_at = λ other. if nat_lt other state.next then state.node_at other else inserted_at (under parent state.next nodes) own state.next (other - state.next); next = state.next + length nodes }
