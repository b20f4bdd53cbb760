use Rattle.std.proofs.Common.{arith}
use Rattle.dom_store.specs.State.{state_of}
use Rattle.cascade.proofs.Keeping.{behind_first}
use Rattle.cascade.proofs.Sets.{further_are_of}
use Rattle.cascade.proofs.kept.KeptLine.leave.Goals as goal

pub loop-start-preserved : goal.loop-start-preserved
loop-start-preserved c = (
  omega arith,
  behind_first (state_of c.args.self.now.document.now) c.args.self.now.nodes c.args.self.now.numbers c.loop-start.start c.loop-start.invariant.1,
  further_are_of c.args.self.now.sets c.args.self.now.nodes c.loop-start.start c.loop-start.invariant.2,
)
