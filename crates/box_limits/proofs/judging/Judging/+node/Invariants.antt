use Rattle.std.proofs.Common.{◌+◌, ◌*◌}
use Rattle.dom_store.specs.State.{state_of}
use Rattle.cascade.specs.Index.{index_rules}
use Rattle.box_limits.proofs.Finding.{IsGoing}
use Rattle.box_limits.proofs.judging.Judging.+node.Given as goal

abbrev pub decreases-node : goal.decreases-node
decreases-node l = 2 * l.depth + 1

abbrev pub decreases-nodes : goal.decreases-nodes
decreases-nodes l = 2 * l.depth

abbrev pub invariant-nodes-loop-number : goal.invariant-nodes-loop-number
invariant-nodes-loop-number l = IsGoing (index_rules l.self.styling.rules.now) (state_of l.self.styling.document.now) l.place.site l.place.style l.numbers l.depth l.number-index l.found
