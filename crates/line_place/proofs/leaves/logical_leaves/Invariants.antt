use Rattle.std.proofs.Common.{◌≡◌, ◌<◌, ◌≤◌, ◌+◌, ◌-◌, ◌++◌, drop, length, map}
use Rattle.std.specs.List.{All}
use Rattle.std.specs.Vec.{vec_capacity, vec_len}
use Rattle.line_place.specs.Leaves.{in_logical_order, leaf_in, leaves_from}
use Rattle.line_place.proofs.leaves.logical_leaves.Given as goal

abbrev pub invariant-loop-place : goal.invariant-loop-place
invariant-loop-place g l = record {
  are : map (leaf_in (g.S.LineSource.items l.source)) l.leaves.items
      ++ leaves_from l.place (drop l.place (map (λ item. item.level) (g.S.LineSource.items l.source))) (drop l.place (g.S.LineSource.items l.source))
      ≡ in_logical_order (g.S.LineSource.items l.source);
  within : All (λ leaf. leaf.place < length (g.S.LineSource.items l.source)) l.leaves.items;
  room : vec_len l.leaves + (length (g.S.LineSource.items l.source) - l.place) ≤ vec_capacity l.leaves;
}
