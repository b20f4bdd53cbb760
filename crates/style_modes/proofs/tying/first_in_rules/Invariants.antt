use Rattle.std.proofs.Common.{◌≡◌, drop}
use Rattle.css_types.specs.Rule.{rulings_of}
use Rattle.style_modes.specs.Tying.{first_of, lesser, rule_places}
use Rattle.style_modes.proofs.tying.first_in_rules.Given as goal

-- with those of the rules that are left it is the first of all
abbrev pub invariant-loop-rule : goal.invariant-loop-rule
invariant-loop-rule l = lesser l.first (first_of (rule_places (rulings_of (drop l.rule-index l.rules)))) ≡ first_of (rule_places (rulings_of l.rules))
