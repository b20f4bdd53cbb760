use Rattle.std.proofs.Common.{map}
use Rattle.para_prepare.specs.Reach.{code_kind}
use Rattle.para_prepare.proofs.Ends.{Closes}
use Rattle.para_prepare.proofs.boxes.mark_closings.Given as goal

abbrev pub invariant-loop-part : goal.invariant-loop-part
invariant-loop-part l = Closes l.marks.items l.before l.part-index (map code_kind l.parts)
