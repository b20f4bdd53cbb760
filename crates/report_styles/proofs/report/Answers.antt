use Rattle.std.proofs.Common.{ap, subst, ◌∙◌}
use Rattle.std.specs.Prelude.{OnOk}
use Rattle.std.specs.Io.KnownBytes.{Appends}
use Rattle.html_tokens.specs.Error.{kind_word}
use Rattle.report_lines.specs.Refusal.{refused_line}
use Rattle.report_styles.specs.Views.{all_of}
use Rattle.report_styles.proofs.Whole.{whole_report, refused_report}
use Rattle.report_styles.proofs.report.Goals as goal

pub returns-in_ok-told-in-Ok : goal.returns-in_ok-told-in-Ok
returns-in_ok-told-in-Ok g c =
    subst (λ bytes. OnOk c.write_all_told.result (Appends (g.W.Write.contents c.args.output.now) (g.W.Write.contents c.write_all_told.new.output) bytes))
    (whole_report c.args.bytes.now _ _ _ c.in-Ok.ensures.read.1 (ap all_of c.deref.ensures.value ∙ c.in_ok-told-in-Ok.ensures.told)) c.write_all_told.ensures

pub returns-in-Err-Refused : goal.returns-in-Err-Refused
returns-in-Err-Refused g c =
    subst (λ bytes. OnOk c.write_refused.result (Appends (g.W.Write.contents c.args.output.now) (g.W.Write.contents c.write_refused.new.output) bytes))
    (ap (refused_line c.word.result.now) c.in-Err-Refused.place-is
    ∙ refused_report c.args.bytes.now _ _ _ _ c.in-Err-Refused.field-0-is c.in-Err-Refused.ensures.read (c.word.ensures.word ∙ ap kind_word c.in-Err-Refused.kind-is)) c.write_refused.ensures
