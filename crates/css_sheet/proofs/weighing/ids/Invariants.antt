use Rattle.css_sheet.proofs.Counting.{Counts_ids}
use Rattle.css_sheet.proofs.weighing.ids.Given as goal

abbrev pub invariant-loop-part : goal.invariant-loop-part
invariant-loop-part l = Counts_ids l.parts l.part-index l.count
