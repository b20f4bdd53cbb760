-- Exact edits of the tree ask nothing of the number that is given next, and leave it as it is.
use Rattle.std.proofs.Common.{◌≡◌, ℕ, zero, suc, ◌-◌, List, ◌++◌, refl, ap, Option, Some, None}
use Rattle.std.specs.Prelude.{flat_map}
use Rattle.dom_store.specs.State.{Entry, State, greatest_depth}
use Rattle.dom_store.specs.Building.{with_next}
use Rattle.dom_store.specs.Standing.{below_levels, children_at, parent_at, unless_skipped}
use Rattle.dom_store.specs.Edits.{changed, changed_if, with_children, with_moved, with_parent, without, without_nodes}
use Rattle.dom_store.specs.Exact.{ExactEditOf, exact_text, exact_style, exact_class, exact_move, take_nodes, restore, exactly, without_each}

below_alike : (next : ℕ) (state : State) (skipped levels number : ℕ) → below_levels skipped levels (with_next next state) number ≡ below_levels skipped levels state number
unfolding below_levels
below_alike next state skipped zero number = refl
below_alike next state skipped (suc levels) number = λ i. unless_skipped skipped number ++ flat_map (λ below. below_alike next state (skipped - 1) levels below i) (children_at state number)

changed_alike : (next : ℕ) (state : State) (parent : Option ℕ) (change : Entry → Entry) → changed_if (with_next next state) parent change ≡ with_next next (changed_if state parent change)
changed_alike next state None change = refl
changed_alike next state (Some parent) change = refl

pub exactly_alike : (next : ℕ) (state : State) (edit : ExactEditOf) → exactly (with_next next state) edit ≡ with_next next (exactly state edit)
exactly_alike next state (exact_text number letters) = refl
exactly_alike next state (exact_style number own) = refl
exactly_alike next state (exact_class number words) = refl
exactly_alike next state (exact_move number parent index) =
    ap (λ (left : State). changed (changed left parent (with_children (with_moved number index))) number (with_parent parent)) (changed_alike next state (parent_at state number) (with_children (without number)))
exactly_alike next state (take_nodes parent numbers) =
    ap (λ (below : ℕ → List ℕ). without_nodes (flat_map below numbers) (changed (with_next next state) parent (with_children (without_each numbers)))) (λ i number. below_alike next state 0 greatest_depth number i)
exactly_alike next state (restore parent index nodes) = refl
