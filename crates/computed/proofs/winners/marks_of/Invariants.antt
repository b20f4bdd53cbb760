use Rattle.computed.proofs.Marking.{IsMarking}
use Rattle.computed.proofs.winners.marks_of.Given as goal

abbrev pub invariant-loop-winner : goal.invariant-loop-winner
invariant-loop-winner l = IsMarking l.winners l.winner-index l.marks
