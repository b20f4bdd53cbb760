use Rattle.std.proofs.Common.{◌∙◌}
use Rattle.css_values.proofs.Valuing.{mark_by, no_mark, one_token}
use Rattle.css_values.proofs.value.ends_important.Goals as goal

pub returns-in_default : goal.returns-in_default
returns-in_default c = no_mark c.args.tokens.now c.in_default.ensures.cases

pub returns-in-Some-split_last : goal.returns-in-Some-split_last
returns-in-Some-split_last c =
    c.is_important.ensures
    ∙ mark_by c.args.tokens.now c.in-Some.others.now c.in-Some-split_last.field-0-1.now c.in-Some-split_last.mark.now c.in-Some.last.now c.in-Some.ensures.cases.0 c.in-Some-split_last.ensures.cases.0

pub returns-in-None : goal.returns-in-None
returns-in-None c = one_token c.args.tokens.now c.in-Some.others.now c.in-Some.last.now c.in-Some.ensures.cases.0 c.in-None.ensures.cases
