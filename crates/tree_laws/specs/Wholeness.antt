-- What holds of every document, so that its tree has each node once. DOM, 4.2.
use Rattle.std.specs.Prelude.{◌≡◌, ℕ, ◌+◌, ◌≤◌, nat_eq, if◌then◌else◌, List, [], ◌∷◌, None, option_to_list}
use Rattle.dom_store.specs.State.{State}
use Rattle.dom_store.specs.Standing.{children_at, parent_at}

-- how often a number is in a list
abbrev pub times : (number : ℕ) → List ℕ → ℕ
times number [] = 0
times number (other ∷ others) = (if nat_eq number other then 1 else 0) + times number others

-- A node is among the children of its parent alone, and there no more than once; `html` has no parent; no number is
-- taken that is still to be given.
pub record IsWhole (state : State) : Type 0 where
  pub inside : (number child : ℕ) → times child (children_at state number) ≤ times number (option_to_list (parent_at state child))
  pub html : parent_at state 0 ≡ None
  pub below : (number : ℕ) → state.next ≤ number → state.node_at number ≡ None
