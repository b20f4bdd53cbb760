use Rattle.std.proofs.Common.{◌≡◌, ◌++◌, drop}
use Rattle.cascade.specs.Filing.{claims_at}
use Rattle.cascade.specs.Line.{whats_of}
use Rattle.cascade.specs.Sheet.{origin_in}
use Rattle.cascade.proofs.filed.Filed.put_at.Given as goal

abbrev pub invariant-loop-place : goal.invariant-loop-place
invariant-loop-place l = l.all.items ++ claims_at (origin_in l.sheet) l.self.rules.items (drop l.place-index l.places) (whats_of l.line.nodes.now)
    ≡ l.initial.all.items ++ claims_at (origin_in l.sheet) l.self.rules.items l.places (whats_of l.line.nodes.now)
