use Rattle.std.proofs.Common.{◌≡◌, ◌≤◌, ◌+◌, ◌-◌, List, Option, ℤ, length}
use Rattle.std.specs.Vec.{vec_capacity, vec_len}
use Rattle.fragment_types.specs.Item.{Entry}
use Rattle.para_lines.proofs.FillLaws.{Filling}
use Rattle.para_lines.proofs.filling.items_alone.Given as goal

abbrev pub invariant-loop-place : goal.invariant-loop-place
invariant-loop-place l = record {
  done : (inline : Option ℤ) (entries : List Entry) → length entries ≡ 1 → Filling inline entries l.lists.items.now l.lists.breaks.now l.fn.advances l.advances l.made.items l.place;
  room : vec_len l.made + (length l.lists.items.now - l.place) ≤ vec_capacity l.made;
}
