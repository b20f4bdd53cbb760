use Rattle.std.proofs.Common.{arith}
use Rattle.fragment_types.specs.Fragment.{kind_of}
use Rattle.place_map.proofs.PartLists.{fewer_below, near_below, near_rect}
use Rattle.hit_caret.proofs.Trees.{one_more, one_passed}
use Rattle.hit_caret.proofs.visiting.+visit_parts.Goals as goal
use Rattle.hit_caret.proofs.visiting.+visit_parts.Goals.{then-looks_into, else-looks_into}

pub visit_part-requires : goal.visit_part-requires
visit_part-requires g t c = record { rect = near_rect c.args.parts.now c.loop-part.part-index c.part-item.result c.loop-part-test.true c.part-item.is c.requires.near }

pub visit_parts-requires : goal.visit_parts-requires
visit_parts-requires g t c κs within = (
  omega (arith, fewer_below c.args.parts.now c.loop-part.part-index c.part-item.result c.loop-part-test.true c.part-item.is c.children.result.now c.children.ensures, c.decreases),
  (
    within,
    near_below c.args.parts.now c.loop-part.part-index c.part-item.result c.loop-part-test.true c.part-item.is c.children.result.now c.children.ensures c.requires.near,
  ),
)

pub loop-part-preserved : goal.loop-part-preserved
loop-part-preserved g t c =
    let seen = g.V.CellVisitor.seen in
    let p = c.part-item.result in
    elim c.if-looks_into.branch [
      | then-looks_into w ↦
          rw w.visitor-is
          (one_more c.args.parts.now c.loop-part.part-index p c.loop-part-test.true c.part-item.is c.args.mode seen c.loop-part.visitor _ c.loop-part.invariant
          w.mode_inside.result (kind_of w.kind.result.now) w.children.result.now w.visit_part.new.visitor w.visit_parts.new.visitor
          w.mode_inside.ensures w.kind.ensures w.children.ensures w.visit_part.ensures w.visit_parts.ensures)
      | else-looks_into w ↦
          rw w.visitor-is
          (one_passed c.args.parts.now c.loop-part.part-index p c.loop-part-test.true c.part-item.is c.args.mode seen c.loop-part.visitor _ c.loop-part.invariant
          c.bound.result.now c.bound.ensures (c.looks_into.ensures w.if-looks_into.false))
    ]
