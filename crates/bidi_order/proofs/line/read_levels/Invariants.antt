use Rattle.std.proofs.Common.{◌≡◌, ◌≤◌, ◌+◌, ◌-◌, length, take}
use Rattle.std.specs.Vec.{vec_capacity, vec_len}
use Rattle.bidi_resolve.specs.Places.{gathered}
use Rattle.bidi_order.proofs.line.read_levels.Given as goal

abbrev pub invariant-loop-place : goal.invariant-loop-place
invariant-loop-place l = record {
  items : l.out.items ≡ gathered 0 l.levels (take l.place-index l.places);
  room : vec_len l.out + (length l.places - l.place-index) ≤ vec_capacity l.out;
}
