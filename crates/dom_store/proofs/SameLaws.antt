-- States that are the same.
use Rattle.std.proofs.Common.{◌≡◌, ap}
use Rattle.dom_store.specs.State.{State, line, tree_of}
use Rattle.dom_store.specs.Opening.{AreSame}
use Rattle.dom_store.specs.Laws.{AnswerAlike}

-- functions that agree at each number are equal, so the states are
pub are_equal : (one other : State) → AreSame one other → one ≡ other
are_equal one other same = λ i. record { node_at = λ number. same.nodes number i; next = same.next i }

pub answer_alike : AnswerAlike
answer_alike = record {
  trees = λ one other same. ap tree_of (are_equal one other same);
  lines = λ one other number same. ap (λ (state : State). line state number) (are_equal one other same);
}
