use Rattle.std.proofs.Common.{subst, Err}
use Rattle.face_api.specs.Faces.{faces_of}
use Rattle.css_types.specs.Rule.{styled_of}
use Rattle.html_read.specs.Values.{nodes_of}
use Rattle.input_due.specs.Document.{ReadsLines, asked_in, asked_of}
use Rattle.input_due.specs.declared.lines.Halt.{Halt}
use Rattle.input_due.proofs.DocumentLaws.{if_ok, lines_read, no_lines}
use Rattle.input_due.proofs.document.with_lines.Goals as goal

pub returns-in-Ok-clause-outcome : goal.returns-in-Ok-clause-outcome
returns-in-Ok-clause-outcome g c =
    if_ok c.opened.result
    (λ due by. lines_read (λ vtable. (g.dyn-1.0.entry vtable).1) (faces_of (λ vtable. (g.dyn-1.0.entry vtable).1) c.args.faces) c.args.view (nodes_of c.args.read.now.nodes.items) (styled_of c.args.styles.now) (asked_in c.args.behind) (asked_of c.in-Ok.lines) due c.in-Ok.ensures.read by) c.opened.ensures.outcome

pub returns-in-Err-Refused-clause-outcome : goal.returns-in-Err-Refused-clause-outcome
returns-in-Err-Refused-clause-outcome g c =
    let told = subst (λ (e : Halt). ReadsLines (Err e) (asked_in c.args.behind)) c.in-Err-Refused.field-0-is c.in-Err-Refused.ensures.read in
    no_lines (λ vtable. (g.dyn-1.0.entry vtable).1) (faces_of (λ vtable. (g.dyn-1.0.entry vtable).1) c.args.faces) c.args.view (nodes_of c.args.read.now.nodes.items) (styled_of c.args.styles.now) (asked_in c.args.behind) _ _ _ _ told c.in-Err-Refused.cause-is c.in-Err-Refused.place-is
