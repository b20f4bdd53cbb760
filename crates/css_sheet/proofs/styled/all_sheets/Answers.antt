use Rattle.std.proofs.Common.{subst}
use Rattle.std.proofs.lemmas.Result.{err_from_is_err_and}
use Rattle.html_read.specs.Values.{text_at}
use Rattle.css_sheet.specs.Styled.{Fails, sheet_at}
use Rattle.css_sheet.specs.Views.{sheet_of}
use Rattle.css_sheet.proofs.Styling.{sheets_stop}
use Rattle.css_sheet.proofs.styled.all_sheets.Goals as goal

pub returns-in_err-add_sheet : goal.returns-in_err-add_sheet
returns-in_err-add_sheet c =
    let p = err_from_is_err_and c.from_residual.result c.from_residual.ensures.1 in
    rw (p.1, p.2) (sheets_stop c.args.texts.now c.loop-text.text-index _ (sheet_of c.loop-text.sheet) c.in_err-add_sheet.field-0.0 c.loop-text-test.true
    (subst (λ t. Fails c.in_err-add_sheet.field-0.0 (sheet_at (text_at t) (sheet_of c.loop-text.sheet))) c.text-item.is c.in_err-add_sheet.ensures) c.loop-text.invariant)
