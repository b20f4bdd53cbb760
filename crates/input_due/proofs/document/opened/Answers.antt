use Rattle.std.proofs.Common.{◌∙◌, ap, arith, subst, sym}
use Rattle.face_api.specs.Faces.{faces_of}
use Rattle.css_types.specs.Rule.{styled_of}
use Rattle.html_read.specs.Values.{nodes_of}
use Rattle.input_due.specs.Document.{IsDueAs, IsOpening, IsRefusing, asked_of}
use Rattle.input_due.specs.Due.{IsReady}
use Rattle.input_due.specs.Input.{ComesOfOpened}
use Rattle.input_due.proofs.DocumentLaws.{due_of_error, due_of_opened, ready_over}
use Rattle.input_due.proofs.document.opened.Goals as goal

pub returns-in-Ok-clause-outcome : goal.returns-in-Ok-clause-outcome
returns-in-Ok-clause-outcome g c =
    let own = c.in-Ok.ensures in
    let faces = faces_of (λ vtable. (g.dyn-1.0.entry vtable).1) c.args.faces in
    subst (λ due. IsDueAs (λ vtable. (g.dyn-1.0.entry vtable).1) (ComesOfOpened IsOpening IsRefusing faces (nodes_of c.args.read.now.nodes.items) (styled_of c.args.styles.now) (asked_of c.args.lines)) c.args.view due) (sym c.over.ensures)
    (due_of_opened (λ vtable. (g.dyn-1.0.entry vtable).1) faces c.args.view c.in-Ok.session c.args.lines (nodes_of c.args.read.now.nodes.items) (styled_of c.args.styles.now)
    (ap (λ seats. faces_of (λ vtable. (g.dyn-1.0.entry vtable).1) seats) own.faces) own.view own.opens.1 own.opens.2 own.opens.0)

pub returns-in-Ok-clause-ready : goal.returns-in-Ok-clause-ready
returns-in-Ok-clause-ready g c =
    let own = c.in-Ok.ensures in
    let held = own.bytes in
    let before = c.requires.read.bytes in
    let short = c.requires.short in
    subst (λ due. IsReady (λ vtable. (g.dyn-1.0.entry vtable).1) due) (sym c.over.ensures)
    (ready_over (λ vtable. (g.dyn-1.0.entry vtable).1) c.none_is_first_where_turnable.ensures c.in-Ok.session c.args.lines own.sound own.unedited c.requires.fits (omega (arith, held, before, short)))

pub returns-in-Some-clause-outcome : goal.returns-in-Some-clause-outcome
returns-in-Some-clause-outcome g c =
    due_of_error (λ vtable. (g.dyn-1.0.entry vtable).1) (faces_of (λ vtable. (g.dyn-1.0.entry vtable).1) c.args.faces) c.args.view (nodes_of c.args.read.now.nodes.items) (styled_of c.args.styles.now) (asked_of c.args.lines) c.in-Err.error c.in-Some.due
    (sym c.not_opened.ensures ∙ c.in-Some.is) c.in-Err.ensures.opens
