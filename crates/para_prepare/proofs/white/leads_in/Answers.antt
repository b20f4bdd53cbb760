use Rattle.std.proofs.Common.{sym, ◌∙◌, Some, None}
use Rattle.para_prepare.proofs.WhiteLaws.{leads_from}
use Rattle.para_prepare.proofs.white.leads_in.Goals as goal

pub returns-in-Some : goal.returns-in-Some
returns-in-Some c =
    sym (leads_from c.args.items.now c.loop-item.item-index c.item-item.result (Some c.in-Some.leads) c.loop-item-test.true c.item-item.is (sym c.in-Some.is ∙ c.tells.ensures))
    ∙ c.loop-item.invariant

pub loop-item-preserved : goal.loop-item-preserved
loop-item-preserved c =
    sym (leads_from c.args.items.now c.loop-item.item-index c.item-item.result None c.loop-item-test.true c.item-item.is (sym c.in_default.is ∙ c.tells.ensures))
    ∙ c.loop-item.invariant
