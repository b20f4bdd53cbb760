use Rattle.std.proofs.Common.{◌≡◌, ◌++◌, drop}
use Rattle.css_types.specs.Rule.{rulings_of}
use Rattle.cascade.specs.Claims.{claims_of_rules}
use Rattle.cascade.specs.Line.{whats_of}
use Rattle.cascade.specs.Sheet.{origin_in}
use Rattle.cascade.proofs.claims.put_rules.Given as goal

abbrev pub invariant-loop-rule : goal.invariant-loop-rule
invariant-loop-rule l =
    (l.place ≡ l.rule-index)
    × (l.all.items ++ claims_of_rules (origin_in l.sheet) l.place (rulings_of (drop l.rule-index l.rules)) (whats_of l.line.nodes.now)
    ≡ l.initial.all.items ++ claims_of_rules (origin_in l.sheet) 0 (rulings_of l.rules) (whats_of l.line.nodes.now))
