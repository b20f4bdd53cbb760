use Rattle.std.proofs.Common.{◌≡◌, ◌≤◌, ◌+◌, ◌-◌, length, map, take}
use Rattle.std.specs.Vec.{vec_capacity, vec_len}
use Rattle.line_place.specs.LineText.{unit_in}
use Rattle.para_lines.specs.Text.{bare}
use Rattle.para_lines.proofs.text.units_of.Given as goal

abbrev pub invariant-loop-k : goal.invariant-loop-k
invariant-loop-k l = record {
  items : l.made.items ≡ map unit_in (map bare (take l.k l.standings));
  room : vec_len l.made + (length l.standings - l.k) ≤ vec_capacity l.made;
}
