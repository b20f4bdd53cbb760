use Rattle.std.proofs.Common.{◌≡◌, ◌≤◌, ◌+◌, ◌-◌, length, take, map}
use Rattle.std.specs.Vec.{vec_capacity, vec_len}
use Rattle.line_place.proofs.leaves.own_classes.Given as goal

abbrev pub invariant-loop-place : goal.invariant-loop-place
invariant-loop-place g l = record {
  are : l.made.items ≡ map (λ item. item.class) (take l.place (g.S.LineSource.items l.source));
  room : vec_len l.made + (length (g.S.LineSource.items l.source) - l.place) ≤ vec_capacity l.made;
}
