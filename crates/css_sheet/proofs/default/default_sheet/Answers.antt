use Rattle.std.proofs.Common.{refl}
use Rattle.css_sheet.specs.Views.{sheet_of}
use Rattle.css_sheet.proofs.DefaultRows.{default_is}
use Rattle.css_sheet.proofs.Sheeting.{default_read}
use Rattle.css_sheet.proofs.default.default_sheet.Goals as goal

pub returns-in-Ok : goal.returns-in-Ok
returns-in-Ok c = default_read 602 (sheet_of c.empty-sheet.result) (sheet_of c.read_into.new.sheet) c.in-Ok.field-0.now default_is refl c.empty-sheet.ensures c.in-Ok.ensures.read
