use Rattle.std.proofs.Common.{◌≡◌}
use Rattle.cascade.specs.Filing.{AreShelved}
use Rattle.cascade.proofs.shelves.Shelves.of.Given as goal

abbrev pub invariant-loop-rule : goal.invariant-loop-rule
invariant-loop-rule l = record { same : l.place ≡ l.rule-index; shelved : AreShelved l.shelves l.rules l.place }
