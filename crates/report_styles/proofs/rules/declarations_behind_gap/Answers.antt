use Rattle.std.proofs.Common.{rules, arith, sym, ◌∙◌}
use Rattle.std.proofs.lemmas.Result.{err_from_is_err_and}
use Rattle.reading.proofs.Turns.{turning_starts, turning_goes_on, turning_ends}
use Rattle.report_styles.specs.Told.{declaration, has_declaration}
use Rattle.report_styles.specs.Views.{all_of}
use Rattle.report_styles.proofs.Turning.{telling_stops}
use Rattle.report_styles.proofs.rules.declarations_behind_gap.Goals as goal

pub loop-alloc-init : goal.loop-alloc-init
loop-alloc-init c = (
  search rules,
  turning_starts (has_declaration c.args.within) (declaration c.args.within c.args.places) (all_of c.args.told.now.items) c.args.text.now,
  omega arith,
)

pub returns-in_err-rest-clause-read : goal.returns-in_err-rest-clause-read
returns-in_err-rest-clause-read c =
    let p = err_from_is_err_and c.from_residual.result c.from_residual.ensures.1 in
    rw (p.1, p.2) (telling_stops (has_declaration c.args.within) (declaration c.args.within c.args.places) _ (all_of c.loop-alloc.told.items) (all_of c.declaration.new.told.items) c.loop-alloc.rest.now c.in_err-rest.field-0.0
    c.loop-alloc.invariant.1 (sym c.has_declaration.ensures ∙ c.loop-alloc-test.true) c.in_err-rest.ensures.read)

pub loop-alloc-preserved : goal.loop-alloc-preserved
loop-alloc-preserved c = (
  search rules,
  turning_goes_on (all_of c.declaration.new.told.items) c.in_ok-rest.rest.now c.loop-alloc.invariant.1 (sym c.has_declaration.ensures ∙ c.loop-alloc-test.true) c.in_ok-rest.ensures.read c.in_ok-rest.ensures.shorter,
  omega (arith, c.in_ok-rest.ensures.shorter, c.loop-alloc.invariant.2),
)

pub returns-clause-read : goal.returns-clause-read
returns-clause-read c = turning_ends c.loop-alloc.invariant.1 (sym c.has_declaration.ensures ∙ c.loop-alloc-test.false)
