-- Where nodes stand in a document: above others, below others, and how deep. DOM, 4.2.
use Rattle.std.specs.Prelude.{ℕ, zero, suc, ◌-◌, Bool, List, [], ◌∷◌, ◌++◌, length, flat_map, Option, Some, None, is_some, option_map, option_and_then, unwrap_or}
use Rattle.dom_store.specs.State.{State, greatest_depth}
unfoldable pub use Rattle.dom_store.specs.Keys.{count_below}
pub use Rattle.dom_store.specs.Keys.{one_if}

abbrev pub lives : State → (number : ℕ) → Bool
lives state number = is_some (state.node_at number)

abbrev pub parent_at : State → (number : ℕ) → Option ℕ
parent_at state number = option_and_then (λ entry. entry.parent) (state.node_at number)

abbrev pub children_at : State → (number : ℕ) → List ℕ
children_at state number = unwrap_or (option_map (λ entry. entry.children) (state.node_at number)) []

-- a node, its parent, and so on up to `html`, no more than `most` of them
unfoldable pub ancestors_to : (most : ℕ) → State → Option ℕ → List ℕ
ancestors_to zero state number = []
ancestors_to (suc most) state None = []
ancestors_to (suc most) state (Some number) = number ∷ ancestors_to most state (parent_at state number)

-- the node itself first
abbrev pub inclusive_ancestors : State → (number : ℕ) → List ℕ
inclusive_ancestors state number = ancestors_to greatest_depth state (Some number)

-- `html` is at 1
abbrev pub depth_at : State → (number : ℕ) → ℕ
depth_at state number = length (inclusive_ancestors state number)

-- the node, where no level is skipped
abbrev pub unless_skipped : (skipped number : ℕ) → List ℕ
unless_skipped zero number = number ∷ []
unless_skipped (suc skipped) number = []

-- A node and those below it, in document order, down to so many levels, of which the first are skipped. The node itself
-- is the first level, its children are the second.
unfoldable pub below_levels : (skipped levels : ℕ) → State → (number : ℕ) → List ℕ
below_levels skipped zero state number = []
below_levels skipped (suc levels) state number = unless_skipped skipped number ++ flat_map (below_levels (skipped - 1) levels state) (children_at state number)

-- the node itself first
abbrev pub inclusive_descendants : State → (number : ℕ) → List ℕ
inclusive_descendants state number = below_levels 0 greatest_depth state number

-- how many nodes live
abbrev pub live_count : State → ℕ
live_count state = count_below state.node_at state.next
