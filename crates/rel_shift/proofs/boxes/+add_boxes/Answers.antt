use Rattle.std.proofs.Common.{ap, ◌∙◌, arith}
use Rattle.std.specs.BTreeMap.{get}
use Rattle.std.specs.Ordering.{nat_cmp}
use Rattle.place_map.proofs.PartLists.{fewer_below}
use Rattle.rel_shift.specs.Boxes.{mode_inside}
use Rattle.rel_shift.proofs.FoundBoxes.{one_more}
use Rattle.rel_shift.proofs.boxes.+add_boxes.Goals as goal

pub add_boxes-requires : goal.add_boxes-requires
add_boxes-requires t c = (
  omega (arith, fewer_below c.args.parts.now c.loop-part.part-index c.part-item.result c.loop-part-test.true c.part-item.is c.children.result.now c.children.ensures, c.decreases),
  tt,
)

pub loop-part-preserved : goal.loop-part-preserved
loop-part-preserved t c = λ node.
    one_more c.args.parts.now c.loop-part.part-index c.part-item.result c.loop-part-test.true c.part-item.is c.args.mode c.mode_inside.result c.children.result.now
    (c.mode_inside.ensures ∙ ap (mode_inside c.args.mode) c.kind.ensures) c.children.ensures node (get nat_cmp c.loop-part.boxes node) (get nat_cmp c.add_box.new.boxes node) (get nat_cmp c.add_boxes.new.boxes node) _
    (c.loop-part.invariant node) (c.in_ok-add_box.ensures node) (c.in_ok-add_boxes.ensures node)
