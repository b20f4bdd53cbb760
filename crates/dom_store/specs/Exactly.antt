-- Exact edits are done: when one can be, and what is answered. DOM, 4.2.3, narrowed.
use Rattle.std.specs.Prelude.{◌≡◌, ◌<◌, ◌≤◌, ℕ, true, false, List, [], ◌∷◌, ◌++◌, length, if◌then◌else◌, nat_eq, None, Some, Result, Ok, Err, IsErr, ⊤}
use Rattle.std.specs.List.{list_any}
use Rattle.std.specs.Option.{option_or}
use Rattle.dom_store.specs.declared.edit.Change.{Change}
use Rattle.dom_store.specs.State.{Entry, State}
use Rattle.dom_store.specs.Standing.{children_at}
use Rattle.dom_store.specs.Edits.{changed, with_children, set_text, set_style, set_class, move_to}
use Rattle.dom_store.specs.Refusals.{refusal}
use Rattle.dom_store.specs.Exact.{NumberedOf, ExactEditOf, exact_text, exact_style, exact_class, exact_move, take_nodes, restore, exactly, concerned_exactly, numbered_at}

-- a node can stand again behind these: its number was drawn, no node has it, and its parent is one of these
pub record CanStandBehind (state : State) (standing : List ℕ) (node : NumberedOf) : Type 0 where
  pub drawn : node.number < state.next
  pub gone : state.node_at node.number ≡ None
  pub once : list_any (nat_eq node.number) standing ≡ false
  pub parent : list_any (nat_eq node.parent) standing ≡ true

-- nodes can stand again, one after the other, each behind these and those before it
unfoldable pub CanStand : State → (standing : List ℕ) → List NumberedOf → Type 0
CanStand state standing [] = ⊤
CanStand state standing (node ∷ nodes) = CanStandBehind state standing node × CanStand state (standing ++ node.number ∷ []) nodes

-- An exact edit that has a namesake among the edits of the tree can be done where that one isn't refused. Nodes can be
-- taken wherever they stand, and restored where they can stand again and the index isn't above the count of the children.
abbrev pub CanBeDone : State → ExactEditOf → Type 0
CanBeDone state (exact_text number letters) = refusal state (set_text number letters) ≡ None
CanBeDone state (exact_style number own) = refusal state (set_style number own) ≡ None
CanBeDone state (exact_class number words) = refusal state (set_class number words) ≡ None
CanBeDone state (exact_move number parent index) = refusal state (move_to number parent index) ≡ None
CanBeDone state (take_nodes parent numbers) = ⊤
CanBeDone state (restore parent index nodes) = (index ≤ length (children_at state parent)) × CanStand state (parent ∷ []) nodes

-- an exact edit is done; where memory runs out, nothing changes
abbrev pub AppliesExactly : {E : Type 0} → (old new : State) → ExactEditOf → Result Change E → Type 0
AppliesExactly old new edit (Ok change) = (new ≡ exactly old edit) × (change.elements.items ≡ concerned_exactly old edit)
AppliesExactly old new edit (Err error) = new ≡ old

-- ---- within the crate

-- the same change, or none
abbrev pub IsUnrefused : {E F : Type 0} → Result Change E → Result Change F → Type 0
IsUnrefused (Ok change) result = result ≡ Ok change
IsUnrefused (Err error) result = IsErr result

-- this node lives under the number, and the others as before
abbrev pub with_node : (number : ℕ) → Entry → State → State
with_node number entry state = record { node_at = λ other. if nat_eq other number then Some entry else state.node_at other; next = state.next }

-- these nodes stand again; the children of those that stood before are what they were
abbrev pub with_standing : List NumberedOf → State → State
with_standing nodes state = record { node_at = λ number. option_or (numbered_at nodes number) (state.node_at number); next = state.next }

-- a node stands again, last among the children of its parent; those of the top stay as they are
abbrev pub with_last : (top : ℕ) → NumberedOf → State → State
with_last top node state =
    let stands = with_node node.number (record { parent = Some node.parent; children = []; what = node.what }) state in
    if nat_eq node.parent top then stands else changed stands node.parent (with_children (λ children. children ++ node.number ∷ []))

-- under every other number than these the same, and the same next number
pub record IsSameBut (numbers : List ℕ) (old new : State) : Type 0 where
  pub others : (number : ℕ) → list_any (nat_eq number) numbers ≡ false → new.node_at number ≡ old.node_at number
  pub next : new.next ≡ old.next
