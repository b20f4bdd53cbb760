use Rattle.std.proofs.Common.{◌≡◌, drop}
use Rattle.style_types.specs.Tree.{all_nodes_of}
use Rattle.box_gen.specs.Found.{both, found_from}
use Rattle.box_gen.proofs.checked.+found.Given as goal

abbrev pub invariant-found_in-loop-node : goal.invariant-found_in-loop-node
invariant-found_in-loop-node l = both l.found (found_from l.site (all_nodes_of (drop l.node-index l.nodes))) ≡ found_from l.site (all_nodes_of l.nodes)
