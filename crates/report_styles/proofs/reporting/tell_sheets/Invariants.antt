use Rattle.report_styles.specs.Views.{all_of}
use Rattle.report_styles.proofs.Walking.{AreTelling}
use Rattle.report_styles.proofs.reporting.tell_sheets.Given as goal

abbrev pub invariant-loop-sheet : goal.invariant-loop-sheet
invariant-loop-sheet l = AreTelling (all_of l.fn.told.items) l.sheets l.sheet-index (all_of l.told.items)
