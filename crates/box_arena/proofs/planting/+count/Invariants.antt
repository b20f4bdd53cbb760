use Rattle.std.proofs.Common.{◌≡◌, ◌≤◌, ◌+◌, suc, drop}
use Rattle.box_gen.specs.Tree.{all_boxes_of, boxes_of, count}
use Rattle.box_arena.proofs.planting.+count.Given as goal

abbrev pub decreases-count : goal.decreases-count
decreases-count l = count (boxes_of l.tree.now)

-- those that are counted, and those that are still to be
abbrev pub invariant-loop-child : goal.invariant-loop-child
invariant-loop-child l = (1 ≤ l.boxes) × (l.boxes + count (all_boxes_of (drop l.child-index l.child-items)) ≡ suc (count (all_boxes_of l.child-items)))
