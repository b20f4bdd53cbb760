use Rattle.std.proofs.Common.{sym, ◌∙◌, arith}
use Rattle.std.proofs.lemmas.Result.{err_from_is_err_and}
use Rattle.std.specs.String.{string_bytes}
use Rattle.html_tokens.proofs.Joining.{value_starts_with, value_stops, value_ends}
use Rattle.html_tokens.proofs.written.value_in.Goals as goal

pub loop-value-init : goal.loop-value-init
loop-value-init c = (c.utf8.text, value_starts_with c.args.quote c.args.text.now (string_bytes c.new-value.result) c.new-value.ensures.bytes, omega arith)

pub returns-in_err-rest-clause-read : goal.returns-in_err-rest-clause-read
returns-in_err-rest-clause-read c =
    let p = err_from_is_err_and c.from_residual.result c.from_residual.ensures.1 in
    rw (p.1, p.2) (value_stops c.args.quote c.args.text.now (string_bytes c.loop-value.value) c.loop-value.rest.now c.in_err-rest.field-0.0 c.loop-value.invariant.1 c.in_err-rest.ensures.read)

pub returns-clause-read : goal.returns-clause-read
returns-clause-read c =
    value_ends c.args.quote c.args.text.now (string_bytes c.loop-value.value) c.loop-value.rest.now c.behind_quote.result.now c.loop-value.invariant.1
    (sym c.in_value.ensures ∙ c.loop-value-test.false) c.behind_quote.ensures
