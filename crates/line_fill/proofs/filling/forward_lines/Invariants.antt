use Rattle.std.proofs.Common.{◌-◌, length}
use Rattle.line_fill.proofs.Forwarding.{Stopped}
use Rattle.line_fill.proofs.filling.forward_lines.Given as goal

abbrev pub invariant-loop-stop : goal.invariant-loop-stop
invariant-loop-stop g l = Stopped l.available (g.S.FillSource.items l.source) l.ends.items l.stop

abbrev pub decreases-loop-stop : goal.decreases-loop-stop
decreases-loop-stop g l = length (g.S.FillSource.items l.source) - l.stop.end
