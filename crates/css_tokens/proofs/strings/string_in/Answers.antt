use Rattle.std.proofs.lemmas.Result.{err_from_is_err_and}
use Rattle.css_tokens.proofs.Stringing.{string_read, string_stops}
use Rattle.css_tokens.proofs.strings.string_in.Goals as goal

pub returns-in_err-string_end-clause-read : goal.returns-in_err-string_end-clause-read
returns-in_err-string_end-clause-read c =
    let p = err_from_is_err_and c.from_residual.result c.from_residual.ensures.1 in
    rw (p.1, p.2) (string_stops c.args.quote c.args.text.now c.as_bytes.result.now c.in_err-string_end.field-0.0.now c.requires c.as_bytes.ensures.value c.in_err-string_end.ensures)

pub returns-clause-read : goal.returns-clause-read
returns-clause-read c =
    string_read c.args.quote c.args.text.now c.as_bytes.result.now c.cut_before.result.0.now c.cut_before.result.1.now c.in_ok-string_end.field-0.now c.behind_quote.result.now c.requires c.as_bytes.ensures.value
    c.in_ok-string_end.ensures c.cut_before.ensures.parts c.cut_before.ensures.rest c.behind_quote.ensures
