use Rattle.std.proofs.Common.{◌≡◌, ◌++◌, drop, map}
use Rattle.std.specs.String.{string_bytes}
use Rattle.cascade.specs.Filing.{claims_under, of_class}
use Rattle.cascade.specs.Line.{whats_of}
use Rattle.cascade.specs.Sheet.{origin_in}
use Rattle.cascade.proofs.filed.Filed.put_of_classes.Given as goal

abbrev pub invariant-loop-class : goal.invariant-loop-class
invariant-loop-class l = l.all.items ++ claims_under (origin_in l.sheet) l.self.rules.items l.self.shelves (map of_class (map (λ c. string_bytes c) (drop l.class-index l.classes))) (whats_of l.line.nodes.now)
    ≡ l.initial.all.items ++ claims_under (origin_in l.sheet) l.self.rules.items l.self.shelves (map of_class (map (λ c. string_bytes c) l.classes)) (whats_of l.line.nodes.now)
