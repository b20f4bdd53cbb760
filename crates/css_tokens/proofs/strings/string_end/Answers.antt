use Rattle.std.proofs.Common.{sym, ◌∙◌}
use Rattle.std.proofs.lemmas.Result.{err_from_is_err_and}
use Rattle.css_tokens.proofs.Stringing.{in_starts, in_goes_on, in_stops, in_ends}
use Rattle.css_tokens.proofs.strings.string_end.Goals as goal

pub loop-rest-init : goal.loop-rest-init
loop-rest-init c = in_starts c.args.quote c.args.bytes.now

pub returns-in_err-rest : goal.returns-in_err-rest
returns-in_err-rest c =
    let p = err_from_is_err_and c.from_residual.result c.from_residual.ensures.1 in
    rw (p.1, p.2) (in_stops c.args.quote c.args.bytes.now c.loop-rest.rest.now c.in_err-rest.field-0.0.now c.loop-rest.invariant (sym c.in_string.ensures ∙ c.loop-rest-test.true) c.in_err-rest.ensures)

pub loop-rest-preserved : goal.loop-rest-preserved
loop-rest-preserved c =
    in_goes_on c.args.quote c.args.bytes.now c.loop-rest.rest.now c.in_ok-rest.rest.now c.loop-rest.invariant (sym c.in_string.ensures ∙ c.loop-rest-test.true) c.in_ok-rest.ensures

pub returns : goal.returns
returns c = in_ends c.args.quote c.args.bytes.now c.loop-rest.rest.now c.loop-rest.invariant (sym c.in_string.ensures ∙ c.loop-rest-test.false)
