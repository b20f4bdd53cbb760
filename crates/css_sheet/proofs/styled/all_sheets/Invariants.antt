use Rattle.css_sheet.specs.Views.{sheet_of}
use Rattle.css_sheet.proofs.Styling.{IsReading}
use Rattle.css_sheet.proofs.styled.all_sheets.Given as goal

abbrev pub invariant-loop-text : goal.invariant-loop-text
invariant-loop-text l = IsReading l.texts l.text-index (sheet_of l.sheet)
