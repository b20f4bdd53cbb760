use Rattle.std.proofs.Common.{rules, sym, ◌∙◌, arith}
use Rattle.std.proofs.lemmas.Result.{err_from_is_err_and}
use Rattle.css_sheet.proofs.Turning.{passing_starts, passing_goes_on, passing_stops, passing_ends}
use Rattle.css_sheet.proofs.compound.comments.Goals as goal

pub loop-rest-init : goal.loop-rest-init
loop-rest-init c = (c.utf8.text, passing_starts c.args.text.now, omega arith)

pub returns-in_err-rest-clause-read : goal.returns-in_err-rest-clause-read
returns-in_err-rest-clause-read c =
    let p = err_from_is_err_and c.from_residual.result c.from_residual.ensures.1 in
    rw (p.1, p.2) (passing_stops c.args.text.now c.loop-rest.rest.now c.in_err-rest.field-0.0.now c.loop-rest.invariant.1 (sym c.starts.ensures ∙ c.loop-rest-test.true) c.in_err-rest.ensures.read)

pub loop-rest-preserved : goal.loop-rest-preserved
loop-rest-preserved c = (
  search rules,
  passing_goes_on c.args.text.now c.loop-rest.rest.now c.in_ok-rest.rest.now c.loop-rest.invariant.1 (sym c.starts.ensures ∙ c.loop-rest-test.true) c.in_ok-rest.ensures.read c.in_ok-rest.ensures.shorter,
  omega (arith, c.in_ok-rest.ensures.shorter, c.loop-rest.invariant.2),
)

pub returns-clause-read : goal.returns-clause-read
returns-clause-read c = passing_ends c.args.text.now c.loop-rest.rest.now c.loop-rest.invariant.1 (sym c.starts.ensures ∙ c.loop-rest-test.false)
