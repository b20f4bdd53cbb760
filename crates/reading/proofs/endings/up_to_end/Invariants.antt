use Rattle.reading.proofs.Seeking.{IsAt}
use Rattle.reading.proofs.endings.up_to_end.Given as goal

abbrev pub invariant-loop-at : goal.invariant-loop-at
invariant-loop-at g l = IsAt (g.E.Ending.reads l.end) l.text l.at
