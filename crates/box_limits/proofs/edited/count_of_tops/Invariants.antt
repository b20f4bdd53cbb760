use Rattle.std.proofs.Common.{◌≡◌, ◌+◌, ◌≤◌, drop}
use Rattle.html_read.specs.Values.{nodes_of}
use Rattle.box_limits.specs.Judging.{count_of_tops}
use Rattle.box_limits.proofs.edited.count_of_tops.Given as goal

abbrev pub invariant-loop-node : goal.invariant-loop-node
invariant-loop-node l = (l.count + count_of_tops (nodes_of (drop l.node-index l.nodes)) ≡ count_of_tops (nodes_of l.nodes)) × (l.count ≤ l.node-index)
