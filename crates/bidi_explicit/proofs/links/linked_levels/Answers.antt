use Rattle.std.proofs.Common.{arith}
use Rattle.bidi_explicit.proofs.Walking.{ends_linked}
use Rattle.bidi_explicit.specs.Stack.{stacked}
use Rattle.bidi_explicit.proofs.links.linked_levels.Goals as goal

pub returns : goal.returns
returns c = ends_linked c.args.levels.now c.loop-i.i c.loop-i.links.links.items (stacked c.loop-i.links.pending) c.loop-i.links.next (omega arith) c.loop-i.invariant.linked
