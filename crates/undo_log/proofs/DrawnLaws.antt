-- Documents of which more numbers were drawn since.
use Rattle.std.proofs.Common.{◌≡◌, ℕ, zero, suc, ◌≤◌, List, [], ◌∷◌, refl, ap, arith, inl, inr}
use Rattle.std.proofs.lemmas.Bool.{cases_lt}
use Rattle.dom_store.specs.State.{State, greatest_depth, tree_to, tree_with}
use Rattle.dom_store.specs.Building.{with_next}
use Rattle.dom_store.proofs.CountLaws.{count_past}
use Rattle.tree_laws.specs.Reached.{IsAtLevel, IsReached}
use Rattle.tree_laws.specs.Weight.{sum_below, weight_of}
use Rattle.undo_log.specs.Laws.{DocumentsStayWhereMoreAreDrawn}

-- where each number from the first limit on has none
sum_past : (of : ℕ → ℕ) (low high : ℕ) → ((n : ℕ) → low ≤ n → of n ≡ 0) → low ≤ high → sum_below of high ≡ sum_below of low
unfolding sum_below
sum_past of low zero none above = let same : zero ≡ low = omega (arith, above) in ap (sum_below of) same
sum_past of low (suc high) none above = elim (cases_lt high low) [
  | inl last ↦ let same : suc high ≡ low = omega (arith, above, last) in ap (sum_below of) same
  | inr more ↦ omega (arith, sum_past of low high none more, none high more)
]

tree_alike : (next : ℕ) (state : State) (depth : ℕ) (numbers : List ℕ) → tree_to depth (with_next next state) numbers ≡ tree_to depth state numbers
unfolding tree_to
tree_alike next state zero numbers = refl
tree_alike next state (suc depth) [] = refl
tree_alike next state (suc depth) (number ∷ numbers) =
    λ i. tree_with (state.node_at number) number (λ below. tree_alike next state depth below i) (tree_alike next state (suc depth) numbers i)

level_alike : (next : ℕ) (state : State) (level number : ℕ) → IsAtLevel state level number → IsAtLevel (with_next next state) level number
level_alike next state zero number at = at
level_alike next state (suc level) number at = (at.0, level_alike next state level at.0 at.1, at.2)

reached_alike : (next : ℕ) (state : State) → IsReached state → IsReached (with_next next state)
reached_alike next state reached = record {
  reached = λ number alive. let at = reached.reached number alive in (at.0, at.1, level_alike next state at.0 number at.2);
}

pub documents_stay : DocumentsStayWhereMoreAreDrawn
documents_stay state next more = record {
  rooted = λ rooted. record { html = rooted.html; body = rooted.body; drawn = omega (arith, rooted.drawn, more) };
  whole = λ whole. record { inside = whole.inside; html = whole.html; below = λ number above. whole.below number (omega (arith, more, above)) };
  reached = reached_alike next state;
  held = λ held. held;
  said = λ said. said;
  tree = tree_alike next state greatest_depth (0 ∷ []);
  count = λ whole. count_past state.node_at state.next next whole.below more;
  weight = λ weight whole. sum_past (λ number. weight_of weight (state.node_at number)) state.next next (λ number above. ap (weight_of weight) (whole.below number above)) more;
}
