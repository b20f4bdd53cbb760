use Rattle.std.proofs.Common.{◌≡◌, ◌++◌, drop}
use Rattle.cascade.specs.Filing.{claims_under, upper_headings}
use Rattle.cascade.specs.Line.{whats_of}
use Rattle.cascade.specs.Sheet.{origin_in}
use Rattle.cascade.proofs.filed.Filed.put_of_above.Given as goal

abbrev pub invariant-loop-node : goal.invariant-loop-node
invariant-loop-node l = l.all.items ++ claims_under (origin_in l.sheet) l.self.rules.items l.self.shelves (upper_headings (whats_of (drop l.node-index l.above))) (whats_of l.line.nodes.now)
    ≡ l.initial.all.items ++ claims_under (origin_in l.sheet) l.self.rules.items l.self.shelves (upper_headings (whats_of l.above)) (whats_of l.line.nodes.now)
