use Rattle.std.proofs.Common.{◌≡◌, ◌+◌, ◌*◌, drop}
use Rattle.dom_store.specs.State.{state_of, tree_to}
use Rattle.style_modes.specs.Tying.{first_of, lesser, places_in}
use Rattle.style_modes.proofs.tying.+first.Given as goal

abbrev pub decreases-first_below : goal.decreases-first_below
decreases-first_below l = 2 * l.depth

abbrev pub decreases-first_at : goal.decreases-first_at
decreases-first_at l = 2 * l.depth + 1

-- with those of the nodes that are left it is the first of all
abbrev pub invariant-first_below-loop-number : goal.invariant-first_below-loop-number
invariant-first_below-loop-number l =
    lesser l.first (first_of (places_in (tree_to l.depth (state_of l.document) (drop l.number-index l.numbers)))) ≡ first_of (places_in (tree_to l.depth (state_of l.document) l.numbers))
