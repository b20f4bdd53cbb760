use Rattle.std.proofs.lemmas.Result.{err_from_is_err_and}
use Rattle.html_read.proofs.Inputs.{places_read, places_stop}
use Rattle.html_read.proofs.places.input.Goals as goal

pub returns-in_err-document-in-Ok : goal.returns-in_err-document-in-Ok
returns-in_err-document-in-Ok c =
    let p = err_from_is_err_and c.from_residual.result c.from_residual.ensures.1 in
    rw (p.1, p.2) (places_stop c.args.bytes.now c.in-Ok.text.now c.in_err-document-in-Ok.field-0.0 c.in-Ok.ensures.cases.0 c.in-Ok.ensures.cases.1 c.in_err-document-in-Ok.ensures)

pub returns-in_ok-document-in-Ok : goal.returns-in_ok-document-in-Ok
returns-in_ok-document-in-Ok c =
    places_read c.args.bytes.now c.in-Ok.text.now c.in_ok-document-in-Ok.field-0.1.now c.in_ok-document-in-Ok.field-0.0.items c.in-Ok.ensures.cases.0 c.in-Ok.ensures.cases.1
    c.in_ok-document-in-Ok.ensures
