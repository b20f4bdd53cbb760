use Rattle.box_gen.specs.declared.tree.BoxTree.{out-BoxTree}
use Rattle.box_gen.specs.Tree.{all_boxes_of, boxes_of, count}
use Rattle.box_arena.specs.At.{node_of}
use Rattle.box_arena.proofs.Planted.{IsUnderWay}
use Rattle.box_arena.proofs.arena.BoxArena.+plant.Given as goal

abbrev pub decreases-plant : goal.decreases-plant
decreases-plant g l = count (boxes_of l.tree)

-- some of the children are planted
abbrev pub invariant-loop-child : goal.invariant-loop-child
invariant-loop-child g l =
    IsUnderWay l.fn.self l.self l.key (node_of (out-BoxTree l.fn.tree).node) (all_boxes_of (out-BoxTree l.fn.tree).children.items) l.child-iterator.rest.items
