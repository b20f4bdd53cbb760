use Rattle.box_arena.specs.Write.{ForgetsBelow}
use Rattle.box_arena.proofs.write.forget_below.Given as goal

abbrev pub invariant-loop-key : goal.invariant-loop-key
invariant-loop-key g l = ForgetsBelow l.fn.boxes l.boxes l.key
