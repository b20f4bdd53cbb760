use Rattle.std.proofs.Common.{◌-◌, ◌≤◌}
use Rattle.dom_store.specs.State.{state_of}
use Rattle.cascade.proofs.Lines.{IsClimbing}
use Rattle.cascade.proofs.line.line_of.Given as goal

abbrev pub invariant-loop-length : goal.invariant-loop-length
invariant-loop-length l = (l.length ≤ 64) × IsClimbing (state_of l.document) l.node l.nodes l.length l.last

abbrev pub decreases-loop-length : goal.decreases-loop-length
decreases-loop-length l = 64 - l.length
