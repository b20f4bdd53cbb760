-- How much a tree weighs, and how much all nodes of a state: a weight of each node, summed.
use Rattle.std.specs.Prelude.{ℕ, zero, suc, ◌+◌, length, Option, Some, None}
use Rattle.dom_store.specs.State.{What, element, text, Entry, State, Tree, none, node}

-- the weight of all nodes of a tree together
unfoldable pub weight_in : (weight : What → ℕ) → Tree → ℕ
weight_in weight none = 0
weight_in weight (node number what inner next) = weight what + (weight_in weight inner + weight_in weight next)

-- the weight of the node under a number, where one lives there
abbrev pub weight_of : (weight : What → ℕ) → Option Entry → ℕ
weight_of weight None = 0
weight_of weight (Some entry) = weight entry.what

-- the sum over the numbers below this one
unfoldable pub sum_below : (ℕ → ℕ) → (number : ℕ) → ℕ
sum_below of zero = 0
sum_below of (suc number) = sum_below of number + of number

-- the weight of all nodes that live
abbrev pub total : (weight : What → ℕ) → State → ℕ
total weight state = sum_below (λ number. weight_of weight (state.node_at number)) state.next

-- ---- the weights

-- each node is one
abbrev pub one : What → ℕ
one what = 1

-- the bytes of a text
abbrev pub bytes : What → ℕ
bytes (element tag id classes dir own) = 0
bytes (text letters) = length letters
