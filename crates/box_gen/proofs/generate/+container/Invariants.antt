use Rattle.std.proofs.Common.{drop}
use Rattle.style_types.specs.Tree.{all_nodes_of}
use Rattle.box_gen.specs.Building.{filling_of}
use Rattle.box_gen.proofs.Walks.{IsCut, PutsBut}
use Rattle.box_gen.proofs.generate.+container.Given as goal

-- whatever follows, with what is left put the container is as with all put
abbrev pub invariant-put_nodes-loop-node : goal.invariant-put_nodes-loop-node
invariant-put_nodes-loop-node l =
    PutsBut (filling_of l.initial.filling) (all_nodes_of l.nodes) (filling_of l.filling) (all_nodes_of (drop l.node-index l.nodes))
    × IsCut l.is_cut (all_nodes_of (drop l.node-index l.nodes)) (all_nodes_of l.nodes)
