use Rattle.box_arena.specs.At.{links_at, mark_at}
use Rattle.box_arena.specs.Climb.{Clears, seen_count}
use Rattle.box_arena.specs.Write.{OnlyMarks}
use Rattle.box_arena.proofs.climb.clear.Given as goal

abbrev pub invariant-loop-current : goal.invariant-loop-current
invariant-loop-current g l = record {
  clears : Clears (links_at l.fn.boxes.slots) (mark_at l.fn.boxes.slots) (mark_at l.boxes.slots) l.key l.current;
  only : OnlyMarks l.fn.boxes l.boxes;
}

abbrev pub decreases-loop-current : goal.decreases-loop-current
decreases-loop-current g l = seen_count l.boxes.slots
