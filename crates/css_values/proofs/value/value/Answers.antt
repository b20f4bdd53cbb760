use Rattle.std.proofs.Common.{rules, sym, ◌∙◌, arith, Ok}
use Rattle.std.proofs.lemmas.Result.{err_from_is_err_and}
use Rattle.css_values.specs.Reading.{begun_of, as_written}
use Rattle.css_values.proofs.Valuing.{gap_stops, valuing_starts, valuing_goes_on, valuing_stops, valuing_ends, valuing_refused}
use Rattle.css_values.proofs.value.value.Goals as goal

pub returns-in_err-text-clause-read : goal.returns-in_err-text-clause-read
returns-in_err-text-clause-read c =
    let p = err_from_is_err_and c.from_residual.result c.from_residual.ensures.1 in
    rw p.1 (gap_stops c.args.within c.args.text.now c.in_err-text.field-0.0.now p.0 c.in_err-text.ensures.read p.2)

pub loop-within-init : goal.loop-within-init
loop-within-init c = (
  search rules,
  valuing_starts c.args.within c.args.text.now c.in_ok-text.text.now c.in_ok-text.field-0-0 (begun_of c.begin-begun.result) c.in_ok-text.ensures.read c.begin-begun.ensures,
  c.in_ok-text.ensures.shorter,
)

pub returns-in_err-rest-clause-read : goal.returns-in_err-rest-clause-read
returns-in_err-rest-clause-read c =
    let p = err_from_is_err_and c.from_residual-in_err-rest.result c.from_residual-in_err-rest.ensures.1 in
    rw (p.1, p.2) (valuing_stops c.args.within c.args.text.now c.loop-within.rest.now (begun_of c.loop-within.begun) c.in_err-rest.field-0.0 c.loop-within.invariant.1
    (sym c.goes_on.ensures ∙ c.loop-within-test.true) c.in_err-rest.ensures.read)

pub loop-within-preserved : goal.loop-within-preserved
loop-within-preserved c = (
  search rules,
  valuing_goes_on c.args.within c.args.text.now c.loop-within.rest.now c.in_ok-rest.rest.now (begun_of c.loop-within.begun) (begun_of c.turn.new.begun) c.loop-within.invariant.1
      (sym c.goes_on.ensures ∙ c.loop-within-test.true) c.in_ok-rest.ensures.read c.in_ok-rest.ensures.shorter,
  omega (arith, c.in_ok-rest.ensures.shorter, c.loop-within.invariant.2),
)

pub returns-in_err-finished-clause-read : goal.returns-in_err-finished-clause-read
returns-in_err-finished-clause-read c =
    let p = err_from_is_err_and c.from_residual-in_err-finished.result c.from_residual-in_err-finished.ensures.1 in
    rw (p.1, p.2) (valuing_refused c.args.within c.args.text.now c.loop-within.rest.now (begun_of c.loop-within.begun) c.in_err-finished.field-0.0 c.loop-within.invariant.1
    (sym c.goes_on.ensures ∙ c.loop-within-test.false) c.in_err-finished.ensures)

pub returns-clause-read : goal.returns-clause-read
returns-clause-read c =
    valuing_ends c.args.within c.args.text.now c.loop-within.rest.now (begun_of c.loop-within.begun) (Ok (as_written c.in_ok-finished.field-0, c.loop-within.rest.now)) c.loop-within.invariant.1
    (sym c.goes_on.ensures ∙ c.loop-within-test.false) c.in_ok-finished.ensures
