use Rattle.std.proofs.Common.{◌≡◌, ◌+◌, ◌++◌, drop}
use Rattle.html_read.specs.Values.{nodes_of}
use Rattle.dom_store.specs.Building.{tops_from}
use Rattle.dom_store.proofs.children.tops_of.Given as goal

abbrev pub invariant-loop-place : goal.invariant-loop-place
invariant-loop-place l = l.tops.items ++ tops_from (l.first + l.place) (drop l.place (nodes_of l.nodes)) ≡ tops_from l.first (nodes_of l.nodes)
