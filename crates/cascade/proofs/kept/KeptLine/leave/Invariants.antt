use Rattle.std.proofs.Common.{◌-◌, ◌≤◌, drop}
use Rattle.dom_store.specs.State.{state_of}
use Rattle.cascade.specs.Chain.{IsChain}
use Rattle.cascade.specs.ClassSets.{AreOf}
use Rattle.cascade.proofs.kept.KeptLine.leave.Given as goal

abbrev pub invariant-loop-start : goal.invariant-loop-start
invariant-loop-start l = (l.start ≤ 64) × IsChain (state_of l.self.document.now) (drop l.start l.self.nodes) (drop l.start l.self.numbers) × AreOf l.self.sets (drop l.start l.self.nodes)

abbrev pub decreases-loop-start : goal.decreases-loop-start
decreases-loop-start l = 64 - l.start
