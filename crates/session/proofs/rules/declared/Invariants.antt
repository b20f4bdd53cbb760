use Rattle.std.proofs.Common.{◌≡◌, ◌-◌, ◌^◌, min, take}
use Rattle.css_types.specs.Rule.{rulings_of}
use Rattle.edits.specs.Edited as rule
use Rattle.session.proofs.rules.declared.Given as goal

abbrev pub invariant-loop-rule : goal.invariant-loop-rule
invariant-loop-rule l = l.count ≡ min (rule.declared (rulings_of (take l.rule-index l.rules))) (2 ^ 64 - 1)
