use Rattle.std.proofs.Common.{◌≡◌, ◌+◌, ◌*◌}
use Rattle.dom_store.specs.State.{state_of}
use Rattle.cascade.specs.Index.{index_rules}
use Rattle.cascade.specs.Kept.{IsKept, kept_state}
use Rattle.style_tree.proofs.Going.{IsGoing}
use Rattle.style_tree.proofs.styling.Styling.+node.Given as goal

abbrev pub decreases-node : goal.decreases-node
decreases-node l = 2 * l.depth + 1

abbrev pub decreases-nodes : goal.decreases-nodes
decreases-nodes l = 2 * l.depth

abbrev pub invariant-nodes-loop-number : goal.invariant-nodes-loop-number
invariant-nodes-loop-number l = IsGoing (index_rules l.self.rules.now) (state_of l.self.document.now) l.parent l.depth l.numbers l.number-index l.all.items
    × IsKept l.kept × (kept_state l.kept ≡ kept_state l.fn.kept)
