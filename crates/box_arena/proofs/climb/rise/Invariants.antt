use Rattle.box_arena.specs.At.{links_at, mark_at}
use Rattle.box_arena.specs.Climb.{Rises, unseen_count}
use Rattle.box_arena.specs.Write.{OnlyMarks}
use Rattle.box_arena.proofs.climb.rise.Given as goal

abbrev pub invariant-loop-current : goal.invariant-loop-current
invariant-loop-current g l = record {
  rises : Rises (links_at l.fn.boxes.slots) (mark_at l.fn.boxes.slots) (mark_at l.boxes.slots) l.key l.current;
  only : OnlyMarks l.fn.boxes l.boxes;
}

abbrev pub decreases-loop-current : goal.decreases-loop-current
decreases-loop-current g l = unseen_count l.boxes.slots
