use Rattle.std.proofs.Common.{◌≡◌, ◌++◌, drop, map}
use Rattle.std.specs.String.{string_bytes}
use Rattle.cascade.specs.Filing.{claims_under, of_upper_class}
use Rattle.cascade.specs.Line.{whats_of}
use Rattle.cascade.specs.Sheet.{origin_in}
use Rattle.cascade.proofs.filed.Filed.put_of_upper_classes.Given as goal

abbrev pub invariant-loop-name : goal.invariant-loop-name
invariant-loop-name l = l.all.items ++ claims_under (origin_in l.sheet) l.self.rules.items l.self.shelves (map of_upper_class (map (λ c. string_bytes c) (drop l.name-index l.classes))) (whats_of l.line.nodes.now)
    ≡ l.initial.all.items ++ claims_under (origin_in l.sheet) l.self.rules.items l.self.shelves (map of_upper_class (map (λ c. string_bytes c) l.classes)) (whats_of l.line.nodes.now)
