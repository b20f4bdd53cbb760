use Rattle.std.proofs.Common.{◌≤◌, ◌+◌, ◌-◌, length}
use Rattle.std.specs.Vec.{vec_capacity, vec_len}
use Rattle.para_lines.proofs.FillLaws.{Filling}
use Rattle.para_lines.proofs.filling.FillInput.items_in_boxes.Given as goal

abbrev pub invariant-loop-place : goal.invariant-loop-place
invariant-loop-place l = record {
  done : Filling l.self.inline l.self.boxes.now l.self.lists.items.now l.self.lists.breaks.now l.fn.advances l.advances l.made.items l.place;
  room : vec_len l.made + (length l.self.lists.items.now - l.place) ≤ vec_capacity l.made;
}
