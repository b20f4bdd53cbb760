use Rattle.css_sheet.proofs.SelectorLaws.{selector_spells}
use Rattle.css_sheet.proofs.SheetLaws.{sheet_spells}
use Rattle.css_sheet.proofs.laws.sheets_spell.Goals as goal

pub returns : goal.returns
returns c = record { selectors = selector_spells; sheets = λ end_ s. sheet_spells end_ s }
