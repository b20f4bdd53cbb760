use Rattle.css_sheet.proofs.DefaultRows.{default_is}
use Rattle.css_sheet.proofs.default.default_is_read.Goals as goal

pub returns : goal.returns
returns c = default_is
