-- Nodes with their numbers, each above the one before it.
use Rattle.std.specs.Prelude.{◌≡◌, ℕ, List, [], ◌∷◌, Option, Some, None, ⊤}
use Rattle.std.specs.Borrow.{Bor}
use Rattle.dom_store.specs.declared.node.Node.{Node}
use Rattle.dom_store.specs.State.{State, entry_of}

abbrev pub first_number : (numbers : List ℕ) → Option ℕ
first_number [] = None
first_number (number ∷ numbers) = Some number

-- each node lives under its number, and the next one is its parent; the last one has none
abbrev pub IsChain : State → List (Bor Node) → (numbers : List ℕ) → Type 0
IsChain state [] [] = ⊤
IsChain state [] (number ∷ numbers) = ⊥
IsChain state (node ∷ nodes) [] = ⊥
IsChain state (node ∷ nodes) (number ∷ numbers) = (state.node_at number ≡ Some (entry_of node.now)) × (node.now.parent ≡ first_number numbers) × IsChain state nodes numbers
