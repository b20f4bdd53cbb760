use Rattle.std.proofs.Common.{◌∙◌, arith}
use Rattle.cascade.specs.Line.{whats_of}
use Rattle.cascade.specs.Sheet.{origin_in}
use Rattle.cascade.proofs.Filing.{above_more}
use Rattle.cascade.proofs.filed.Filed.put_of_above.Goals as goal

pub loop-node-preserved : goal.loop-node-preserved
loop-node-preserved c =
    above_more c.loop-node.all.items c.put_of_upper.new.all.items (origin_in c.args.sheet) c.args.self.now.rules.items c.args.self.now.shelves c.loop-node.node-index c.args.above.now c.node-item.result (whats_of c.args.line.nodes.now)
    (omega arith) c.node-item.is c.in_ok-put_of_upper.ensures
    ∙ c.loop-node.invariant
