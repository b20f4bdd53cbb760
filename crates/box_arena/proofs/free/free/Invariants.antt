use Rattle.std.proofs.Common.{◌≡◌}
use Rattle.box_arena.specs.At.{first_at}
use Rattle.box_arena.specs.Weight.{weight}
use Rattle.box_arena.specs.Free.{Lessens}
use Rattle.box_arena.proofs.free.free.Given as goal

abbrev pub invariant-loop-first : goal.invariant-loop-first
invariant-loop-first g l = record {
  lessens : Lessens l.fn.boxes l.boxes l.key;
  first : l.first ≡ first_at l.boxes.slots l.key;
}

abbrev pub decreases-loop-first : goal.decreases-loop-first
decreases-loop-first g l = weight l.key l.boxes.slots
