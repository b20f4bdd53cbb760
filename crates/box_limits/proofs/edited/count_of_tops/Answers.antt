use Rattle.std.proofs.Common.{arith}
use Rattle.box_limits.proofs.Editing.{count_more, count_none, none_is, one_is}
use Rattle.box_limits.proofs.edited.count_of_tops.Goals as goal
use Rattle.box_limits.proofs.edited.count_of_tops.Goals.{then-is_none, else-is_none}

pub loop-node-preserved : goal.loop-node-preserved
loop-node-preserved c =
    let more = count_more c.args.nodes.now c.loop-node.node-index c.node-item.result c.loop-node-test.true c.node-item.is in
    elim c.if-is_none.branch [
      | then-is_none w ↦ let one = one_is c.node-item.result.parent w.if-is_none.ensures in
          (omega (arith, w.count-is, more, one, c.loop-node.invariant.0), omega (arith, w.count-is, c.loop-node.invariant.1))
      | else-is_none w ↦ let none = none_is c.node-item.result.parent w.if-is_none.ensures in
          (omega (arith, w.count-is, more, none, c.loop-node.invariant.0), omega (arith, w.count-is, c.loop-node.invariant.1))
    ]

pub returns-clause-value : goal.returns-clause-value
returns-clause-value c = omega (arith, c.loop-node.invariant.0, count_none c.args.nodes.now c.loop-node.node-index c.loop-node-test.false)
