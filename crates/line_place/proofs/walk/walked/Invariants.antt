use Rattle.std.proofs.Common.{[], ◌≡◌, ◌+◌, ◌≤◌, ◌^◌, drop, length, map, unsigned_abs}
use Rattle.line_place.specs.Line.{line_in}
use Rattle.line_place.specs.Marks.{mark_of}
use Rattle.line_place.specs.Placing.{outermost, rows}
use Rattle.line_place.specs.Reach.{ArePaired, mark_reach, total}
use Rattle.line_place.specs.Walk.{AreOpen, whole}
use Rattle.line_place.proofs.walk.walked.Given as goal

abbrev pub invariant-loop-mark : goal.invariant-loop-mark
invariant-loop-mark g l = record {
  whole : whole (line_in l.stage.frame.now []) l.stage.over l.walk (drop l.mark-index (map mark_of l.marks)) ≡ outermost (rows (line_in l.stage.frame.now []) l.stage.over l.fn.at (map mark_of l.marks));
  paired : ArePaired (length l.walk.opened.items) (drop l.mark-index (map mark_of l.marks));
  opened : AreOpen (length l.stage.frame.now.boxes.now) l.walk.opened.items;
  near : unsigned_abs l.walk.at + total (mark_reach l.stage.frame.now.boxes.now) (drop l.mark-index (map mark_of l.marks)) ≤ 2 ^ 61;
}
