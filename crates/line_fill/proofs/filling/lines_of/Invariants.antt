use Rattle.std.proofs.Common.{◌-◌, length}
use Rattle.line_fill.proofs.Lining.{Filled}
use Rattle.line_fill.proofs.filling.lines_of.Given as goal

abbrev pub invariant-loop-from : goal.invariant-loop-from
invariant-loop-from l = Filled l.available l.items l.ends.items l.from

abbrev pub decreases-loop-from : goal.decreases-loop-from
decreases-loop-from l = length l.items - l.from
