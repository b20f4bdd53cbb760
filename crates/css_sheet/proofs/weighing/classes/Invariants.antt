use Rattle.css_sheet.proofs.Counting.{Counts_classes}
use Rattle.css_sheet.proofs.weighing.classes.Given as goal

abbrev pub invariant-loop-part : goal.invariant-loop-part
invariant-loop-part l = Counts_classes l.parts l.part-index l.count
