use Rattle.std.proofs.Common.{◌∙◌, ap, subst, sym, List, Err}
use Rattle.std.proofs.lemmas.Result.{err_from_is_err_and}
use Rattle.cascade.specs.Winners.{AreSaidRules}
use Rattle.css_types.specs.Rule.{Ruling, rulings_of}
use Rattle.dom_store.specs.State.{state_of}
use Rattle.style_tree.specs.Styling.{styled_document}
use Rattle.box_gen.specs.Limit.{IsWithinLimits}
use Rattle.box_limits.specs.Limits.{Answers}
use Rattle.session.proofs.session.Session.change_rules.Goals as goal

pub check_rules-requires-clause-rules : goal.check_rules-requires-clause-rules
check_rules-requires-clause-rules g c =
    let indexed = c.in_ok-index.ensures ∙ ap rulings_of c.deref.ensures.value in
    subst AreSaidRules (sym indexed) c.requires.said

pub returns-clause-answers : goal.returns-clause-answers
returns-clause-answers g c =
    let indexed = c.in_ok-index.ensures ∙ ap rulings_of c.deref.ensures.value in
    subst (λ (rules : List Ruling). IsWithinLimits (styled_document rules (state_of c.args.self.now.document))) indexed c.in_ok-check_rules.ensures

pub returns-in_err-check_rules-clause-answers : goal.returns-in_err-check_rules-clause-answers
returns-in_err-check_rules-clause-answers g c =
    let indexed = c.in_ok-index.ensures ∙ ap rulings_of c.deref.ensures.value in
    let error = c.in_err-check_rules.field-0.0 in
    let p = err_from_is_err_and c.from_residual-in_err-check_rules.result c.from_residual-in_err-check_rules.ensures.1 in
    rw (p.1, p.2) (subst (λ (rules : List Ruling). Answers rules (state_of c.args.self.now.document) (Err error)) indexed c.in_err-check_rules.ensures)

pub returns-clause-index : goal.returns-clause-index
returns-clause-index g c = c.in_ok-index.ensures ∙ ap rulings_of c.deref.ensures.value
