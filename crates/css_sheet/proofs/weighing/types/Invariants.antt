use Rattle.css_sheet.proofs.Counting.{Counts_types}
use Rattle.css_sheet.proofs.weighing.types.Given as goal

abbrev pub invariant-loop-part : goal.invariant-loop-part
invariant-loop-part l = Counts_types l.parts l.part-index l.count
