use Rattle.std.proofs.Common.{◌≡◌, ◌++◌, drop}
use Rattle.style_types.specs.Tree.{all_nodes_of}
use Rattle.rel_shift.specs.Positions.{positions_in}
use Rattle.rel_shift.proofs.positioned.+put.Given as goal

-- the positions so far, and those to come
abbrev pub invariant-put_nodes-loop-node : goal.invariant-put_nodes-loop-node
invariant-put_nodes-loop-node l =
    l.made.items ++ positions_in l.around.parent l.around.holder (all_nodes_of (drop l.node-index l.nodes))
    ≡ l.initial.made.items ++ positions_in l.around.parent l.around.holder (all_nodes_of l.nodes)
