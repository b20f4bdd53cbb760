use Rattle.std.proofs.Common.{rules, sym, ◌∙◌}
use Rattle.std.proofs.lemmas.Result.{err_from_is_err_and}
use Rattle.reading.proofs.Turns.{turning_starts, turning_goes_on, turning_ends}
use Rattle.report_styles.specs.Told.{has_rule, rule_turn}
use Rattle.report_styles.specs.Views.{all_of}
use Rattle.report_styles.proofs.Turning.{telling_stops}
use Rattle.report_styles.proofs.rules.rules_behind_gap.Goals as goal

pub loop-alloc-init : goal.loop-alloc-init
loop-alloc-init c = (search rules, turning_starts has_rule (rule_turn c.args.places) (all_of c.args.told.now.items) c.args.text.now)

pub returns-in_err-rest : goal.returns-in_err-rest
returns-in_err-rest c =
    let p = err_from_is_err_and c.from_residual.result c.from_residual.ensures.1 in
    rw (p.1, p.2) (telling_stops has_rule (rule_turn c.args.places) _ (all_of c.loop-alloc.told.items) (all_of c.rule_turn.new.told.items) c.loop-alloc.rest.now c.in_err-rest.field-0.0
    c.loop-alloc.invariant.1 (sym c.has_rule.ensures ∙ c.loop-alloc-test.true) c.in_err-rest.ensures.read)

pub loop-alloc-preserved : goal.loop-alloc-preserved
loop-alloc-preserved c = (
  search rules,
  turning_goes_on (all_of c.rule_turn.new.told.items) c.in_ok-rest.rest.now c.loop-alloc.invariant.1 (sym c.has_rule.ensures ∙ c.loop-alloc-test.true) c.in_ok-rest.ensures.read c.in_ok-rest.ensures.shorter,
)

pub returns : goal.returns
returns c = turning_ends c.loop-alloc.invariant.1 (sym c.has_rule.ensures ∙ c.loop-alloc-test.false)
