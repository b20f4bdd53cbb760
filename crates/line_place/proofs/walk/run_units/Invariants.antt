use Rattle.std.proofs.Common.{◌≡◌, ◌≤◌, ◌+◌, ◌-◌, length, map, take}
use Rattle.std.specs.Vec.{vec_capacity, vec_len}
use Rattle.line_place.specs.Placing.{unit_of}
use Rattle.line_place.proofs.walk.run_units.Given as goal

abbrev pub invariant-loop-k : goal.invariant-loop-k
invariant-loop-k g l = record {
  items : l.units.items ≡ map unit_of (take l.k l.run);
  room : vec_len l.units + (length l.run - l.k) ≤ vec_capacity l.units;
}
