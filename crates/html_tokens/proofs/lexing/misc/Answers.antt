use Rattle.std.proofs.Common.{rules, sym, ◌∙◌, arith}
use Rattle.std.proofs.lemmas.Result.{err_from_is_err_and}
use Rattle.html_tokens.proofs.Miscellany.{skipping_starts, skipping_goes_on, skipping_stops, skipping_ends}
use Rattle.html_tokens.proofs.lexing.misc.Goals as goal

pub loop-rest-init : goal.loop-rest-init
loop-rest-init c = (c.utf8.text, skipping_starts c.args.mark.now c.args.text.now, omega arith)

pub returns-in_err-rest-clause-read : goal.returns-in_err-rest-clause-read
returns-in_err-rest-clause-read c =
    let p = err_from_is_err_and c.from_residual.result c.from_residual.ensures.1 in
    rw (p.1, p.2) (skipping_stops c.args.mark.now c.args.text.now c.loop-rest.rest.now c.in_err-rest.field-0.0.now c.loop-rest.invariant.1
    (sym c.in_misc.ensures ∙ c.loop-rest-test.true) c.in_err-rest.ensures.read)

pub loop-rest-preserved : goal.loop-rest-preserved
loop-rest-preserved c = (
  search rules,
  skipping_goes_on c.args.mark.now c.args.text.now c.loop-rest.rest.now c.in_ok-rest.rest.now c.loop-rest.invariant.1
      (sym c.in_misc.ensures ∙ c.loop-rest-test.true) c.in_ok-rest.ensures.read c.in_ok-rest.ensures.shorter,
  omega (arith, c.in_ok-rest.ensures.shorter, c.loop-rest.invariant.2),
)

pub returns-clause-read : goal.returns-clause-read
returns-clause-read c = skipping_ends c.args.mark.now c.args.text.now c.loop-rest.rest.now c.loop-rest.invariant.1 (sym c.in_misc.ensures ∙ c.loop-rest-test.false)
