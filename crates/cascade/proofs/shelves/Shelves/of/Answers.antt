use Rattle.std.proofs.Common.{ℕ, get_or, ap, sym, ◌∙◌, arith}
use Rattle.cascade.proofs.Shelving.{more_shelved}
use Rattle.cascade.proofs.shelves.Shelves.of.Goals as goal

pub loop-rule-preserved : goal.loop-rule-preserved
loop-rule-preserved c =
    let there = c.rule-item.is ∙ ap (λ (n : ℕ). get_or c.args.rules.now n c.rule-item.result) (sym c.loop-rule.invariant.same) in
    record { same = omega arith; shelved = more_shelved c.loop-rule.shelves c.put.new.self c.args.rules.now c.rule-item.result c.loop-rule.place (omega arith) there c.in_ok-put.ensures c.loop-rule.invariant.shelved }
