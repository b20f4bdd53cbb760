use Rattle.std.proofs.Common.{rules, ◌≡◌}
use Rattle.reading.specs.Stop.{end_of}
use Rattle.css_sheet.specs.Views.{sheet_of}
use Rattle.css_sheet.proofs.Sheeting.{rules_read}
use Rattle.css_sheet.proofs.sheet.answer_sheet.Goals as goal

pub returns-in-Ok : goal.returns-in-Ok
returns-in-Ok c =
    let ends : c.saturating_add-end.result ≡ end_of c.args.start c.args.text.now = search rules in (
      c.in-Ok.field-0.now,
      rules_read (end_of c.args.start c.args.text.now) c.saturating_add-end.result (sheet_of c.empty-sheet.result) (sheet_of c.read_into.new.sheet) c.args.text.now c.in-Ok.field-0.now ends c.empty-sheet.ensures
          c.in-Ok.ensures.read,
    )
