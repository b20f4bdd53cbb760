use Rattle.std.proofs.Common.{◌∙◌, ap, subst, sym, Err, length}
use Rattle.face_api.specs.Faces.{faces_of}
use Rattle.html_tokens.specs.declared.error.Refusal.{Refusal}
use Rattle.html_read.specs.Error.{IsRefused}
use Rattle.html_read.specs.Reading as reading
use Rattle.html_read.specs.declared.error.HtmlError.{HtmlError}
use Rattle.input_due.specs.Document.{IsDueAs, IsOpening, IsRefusing}
use Rattle.input_due.specs.Input.{ComesOfDocument}
use Rattle.input_due.proofs.DocumentLaws.{document_read, if_ok, no_document, read_before}
use Rattle.input_due.proofs.document.with_document.Goals as goal

pub with_tail-requires-clause-read : goal.with_tail-requires-clause-read
with_tail-requires-clause-read g c = record {
  shaped = c.in-Ok.ensures.shaped;
  ordered = c.in-Ok.ensures.ordered;
  bytes = read_before c.texts_stand_apart.ensures.document_bytes c.args.input.now c.in-Ok.read c.in-Ok.ensures.found;
}

pub returns-in-Ok-clause-outcome : goal.returns-in-Ok-clause-outcome
returns-in-Ok-clause-outcome g c =
    let read = c.in-Ok.ensures.read in
    if_ok c.with_tail.result (λ due by. document_read (λ vtable. (g.dyn-1.0.entry vtable).1) (faces_of (λ vtable. (g.dyn-1.0.entry vtable).1) c.args.faces) c.args.view c.args.follows c.args.input.now _ due read.1 by) c.with_tail.ensures.outcome

pub returns-in-Err-Refused-clause-outcome : goal.returns-in-Err-Refused-clause-outcome
returns-in-Err-Refused-clause-outcome g c =
    let told = subst (λ (e : HtmlError). IsRefused (length c.args.input.now) e (reading.input c.args.input.now)) c.in-Err-Refused.field-0-is c.in-Err-Refused.ensures.read in
    subst (λ due. IsDueAs (λ vtable. (g.dyn-1.0.entry vtable).1) (ComesOfDocument IsOpening IsRefusing (faces_of (λ vtable. (g.dyn-1.0.entry vtable).1) c.args.faces) c.args.follows c.args.input.now) c.args.view due) (sym c.no_document.ensures)
    (no_document (λ vtable. (g.dyn-1.0.entry vtable).1) (faces_of (λ vtable. (g.dyn-1.0.entry vtable).1) c.args.faces) c.args.view c.args.follows c.args.input.now _ told.0 _ (told.1 ∙ ap (λ (k : Refusal). Err (k, told.0)) (sym c.in-Err-Refused.kind-is)) (c.in-Err-Refused.place-is ∙ told.2))
