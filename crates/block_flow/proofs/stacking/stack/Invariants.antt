use Rattle.block_flow.proofs.Walk.{IsAlong}
use Rattle.block_flow.proofs.stacking.stack.Given as goal

abbrev pub invariant-loop-child : goal.invariant-loop-child
invariant-loop-child g l = IsAlong l.parent.start_joins l.children l.places.items l.reached l.child-index
