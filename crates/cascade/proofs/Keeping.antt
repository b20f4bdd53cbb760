-- The line that is kept while a document is gone through.
use Rattle.std.proofs.Common.{◌≡◌, ℕ, zero, suc, ◌+◌, ◌<◌, ◌≤◌, List, [], ◌∷◌, length, drop, set, refl, sym, ap, ◌∙◌, arith, Some}
use Rattle.std.specs.Borrow.{Bor}
use Rattle.std.proofs.lemmas.List.{drop-drop, drop-set, length-drop}
use Rattle.dom_store.specs.State.{State, entry_of, what_of, line_to, line_with}
use Rattle.dom_store.specs.declared.node.Node.{Node}
use Rattle.cascade.specs.Line.{whats_of}
use Rattle.cascade.specs.Chain.{IsChain, first_number}

-- a chain is the line of its first number
pub chain_is_line : (state : State) (most : ℕ) (nodes : List (Bor Node)) (numbers : List ℕ) → length nodes ≤ most → IsChain state nodes numbers → whats_of nodes ≡ line_to most state (first_number numbers)
unfolding line_to
chain_is_line state zero [] [] le is = refl
chain_is_line state (suc most) [] [] le is = refl
chain_is_line state most [] (number ∷ numbers) le is = absurd is
chain_is_line state most (node ∷ nodes) [] le is = absurd is
chain_is_line state zero (node ∷ nodes) (number ∷ numbers) le is = absurd (omega (arith, le))
chain_is_line state (suc most) (node ∷ nodes) (number ∷ numbers) le (lives, under, is) =
    ap (λ l. what_of node.now.kind ∷ l) (chain_is_line state most nodes numbers (omega (arith, le)) is ∙ ap (line_to most state) (sym under))
    ∙ ap (line_with (line_to most state)) (sym lives)

-- what is kept is the line of its first number
pub kept_is_line : (state : State) (start : ℕ) (nodes : List (Bor Node)) (numbers : List ℕ) → length nodes ≡ 64 → IsChain state (drop start nodes) (drop start numbers)
    → whats_of (drop start nodes) ≡ line_to 64 state (first_number (drop start numbers))
kept_is_line state start nodes numbers long is = chain_is_line state 64 (drop start nodes) (drop start numbers) (omega (arith, length-drop start nodes, long)) is

-- what stands behind the first of a chain is one
behind : (state : State) (nodes : List (Bor Node)) (numbers : List ℕ) → IsChain state nodes numbers → IsChain state (drop 1 nodes) (drop 1 numbers)
behind state [] [] is = tt
behind state [] (number ∷ numbers) is = absurd is
behind state (node ∷ nodes) [] is = absurd is
behind state (node ∷ nodes) (number ∷ numbers) is = is.2

pub behind_first : (state : State) (nodes : List (Bor Node)) (numbers : List ℕ) (start : ℕ) → IsChain state (drop start nodes) (drop start numbers) → IsChain state (drop (start + 1) nodes) (drop (start + 1) numbers)
behind_first state nodes numbers start is = rw (← drop-drop 1 start nodes, ← drop-drop 1 start numbers) (behind state (drop start nodes) (drop start numbers) is)

-- a node before the first
pub with_first : (state : State) (nodes : List (Bor Node)) (numbers : List ℕ) (start place number : ℕ) (node : Bor Node) → start ≡ place + 1 → place < length nodes → place < length numbers
    → state.node_at number ≡ Some (entry_of node.now) → first_number (drop start numbers) ≡ node.now.parent
    → IsChain state (drop start nodes) (drop start numbers) → IsChain state (drop place (set nodes place node)) (drop place (set numbers place number))
with_first state nodes numbers start place number node next lt lt_ lives under is =
    rw (drop-set nodes place node lt, drop-set numbers place number lt_, ← next) (lives, sym under, is)
