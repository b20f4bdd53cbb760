use Rattle.std.proofs.Common.{rules, ◌≡◌, ◌∙◌, subst, sym, Bool, length, drop, Err}
use Rattle.face_api.specs.Faces.{faces_of}
use Rattle.html_read.specs.declared.error.HtmlError.{HtmlError}
use Rattle.html_read.specs.Error.{TellsTail}
use Rattle.html_read.specs.Reading as reading
use Rattle.html_read.specs.Values.{whole_of}
use Rattle.input_due.specs.Asked.{asked_at, asked_behind}
use Rattle.input_due.specs.Document.{IsDueAs, IsOpening, IsRefusing}
use Rattle.input_due.specs.Input.{ComesOfTail, ComesOfWhole}
use Rattle.input_due.proofs.DocumentLaws.{if_ok, lines_here, no_tail, tail_read}
use Rattle.input_due.proofs.document.with_tail.Goals as goal

pub returns-in-Ok-from_utf8-clause-outcome : goal.returns-in-Ok-from_utf8-clause-outcome
returns-in-Ok-from_utf8-clause-outcome g c =
    let input = c.args.input.now in
    let place = c.in-Ok.place in
    let text : c.in-Ok-from_utf8.text.now ≡ drop place input = search rules in
    let behind = drop c.args.read.now.end input in
    let faces = faces_of (λ vtable. (g.dyn-1.0.entry vtable).1) c.args.faces in
    let same : asked_behind c.args.follows (length input) (drop place input) ≡ asked_at c.args.follows place c.in-Ok-from_utf8.text.now =
    lines_here c.args.follows input c.in-Ok-from_utf8.text.now place c.in-Ok.ensures.within.1 text in
    if_ok c.with_styles.result
    (λ due by. subst (λ (s : Bool). IsDueAs (λ vtable. (g.dyn-1.0.entry vtable).1) (ComesOfTail IsOpening IsRefusing faces c.args.follows (length input) (whole_of c.args.read.now) (reading.tail s behind)) c.args.view due) c.has_lines.ensures
    (tail_read (λ vtable. (g.dyn-1.0.entry vtable).1) faces c.args.view c.args.follows (length input) (whole_of c.args.read.now) (reading.tail c.has_lines.result behind) (drop place input) due c.in-Ok.ensures.rest
    (subst (λ asked. IsDueAs (λ vtable. (g.dyn-1.0.entry vtable).1) (ComesOfWhole IsOpening IsRefusing faces (whole_of c.args.read.now) asked) c.args.view due) (sym same) by))) c.with_styles.ensures.outcome

pub returns-in-Err-Refused-clause-outcome : goal.returns-in-Err-Refused-clause-outcome
returns-in-Err-Refused-clause-outcome g c =
    let input = c.args.input.now in
    let behind = drop c.args.read.now.end input in
    let faces = faces_of (λ vtable. (g.dyn-1.0.entry vtable).1) c.args.faces in
    let read = reading.tail c.has_lines.result behind in
    let told = subst (λ (e : HtmlError). TellsTail (length input) (Err e) read) c.in-Err-Refused.field-0-is c.in-Err-Refused.ensures.read in
    subst (λ (s : Bool). IsDueAs (λ vtable. (g.dyn-1.0.entry vtable).1) (ComesOfTail IsOpening IsRefusing faces c.args.follows (length input) (whole_of c.args.read.now) (reading.tail s behind)) c.args.view c.no_document.result) c.has_lines.ensures
    (subst (λ due. IsDueAs (λ vtable. (g.dyn-1.0.entry vtable).1) (ComesOfTail IsOpening IsRefusing faces c.args.follows (length input) (whole_of c.args.read.now) read) c.args.view due) (sym c.no_document.ensures)
    (no_tail (λ vtable. (g.dyn-1.0.entry vtable).1) faces c.args.view c.args.follows (length input) (whole_of c.args.read.now) read _ told.1 _ (c.in-Err-Refused.kind-is ∙ told.0) told.2 (c.in-Err-Refused.place-is ∙ told.3)))
