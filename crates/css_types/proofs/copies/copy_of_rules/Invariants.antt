use Rattle.std.proofs.Common.{◌≡◌, ◌++◌, drop}
use Rattle.css_types.specs.Rule.{rulings_of}
use Rattle.css_types.proofs.copies.copy_of_rules.Given as goal

abbrev pub invariant-loop-rule : goal.invariant-loop-rule
invariant-loop-rule l = rulings_of l.own.items ++ rulings_of (drop l.rule-index l.rules) ≡ rulings_of l.rules
