use Rattle.std.proofs.Common.{subst, sym}
use Rattle.css_sheet.specs.Styled.{Fails, styling}
use Rattle.css_values.specs.declared.error.CssError.{CssError}
use Rattle.face_api.specs.Faces.{faces_of}
use Rattle.css_types.specs.Rule.{styled_of}
use Rattle.html_read.specs.Values.{whole_of}
use Rattle.input_due.specs.Document.{IsDueAs, IsOpening, IsRefusing, asked_in}
use Rattle.input_due.specs.Input.{ComesOfWhole}
use Rattle.input_due.proofs.DocumentLaws.{if_ok, no_styles, styles_read}
use Rattle.input_due.proofs.document.with_styles.Goals as goal

pub returns-in-Ok-clause-outcome : goal.returns-in-Ok-clause-outcome
returns-in-Ok-clause-outcome g c =
    if_ok c.with_lines.result
    (λ due by. styles_read (λ vtable. (g.dyn-1.0.entry vtable).1) (faces_of (λ vtable. (g.dyn-1.0.entry vtable).1) c.args.faces) c.args.view (whole_of c.args.read.now) (asked_in c.args.behind) (styled_of c.in-Ok.styles) due c.in-Ok.ensures.read by) c.with_lines.ensures.outcome

pub returns-in-Err-Refused-clause-outcome : goal.returns-in-Err-Refused-clause-outcome
returns-in-Err-Refused-clause-outcome g c =
    let told = subst (λ (e : CssError). Fails e (styling (whole_of c.args.read.now))) c.in-Err-Refused.field-0-is c.in-Err-Refused.ensures.read in
    subst (λ due. IsDueAs (λ vtable. (g.dyn-1.0.entry vtable).1) (ComesOfWhole IsOpening IsRefusing (faces_of (λ vtable. (g.dyn-1.0.entry vtable).1) c.args.faces) (whole_of c.args.read.now) (asked_in c.args.behind)) c.args.view due) (sym c.no_styles.ensures)
    (no_styles (λ vtable. (g.dyn-1.0.entry vtable).1) (faces_of (λ vtable. (g.dyn-1.0.entry vtable).1) c.args.faces) c.args.view (whole_of c.args.read.now) (asked_in c.args.behind) _ _ _ _ told c.in-Err-Refused.kind-is c.in-Err-Refused.place-is)
