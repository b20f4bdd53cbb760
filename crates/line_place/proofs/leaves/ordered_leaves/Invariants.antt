use Rattle.std.proofs.Common.{◌≡◌, ◌<◌, ◌≤◌, ◌+◌, ◌-◌, length, take, map}
use Rattle.std.specs.Prelude.{slice_get}
use Rattle.std.specs.List.{All, filter_map}
use Rattle.std.specs.Vec.{vec_capacity, vec_len}
use Rattle.line_place.specs.Leaves.{leaf_in, leaves_from}
use Rattle.line_place.proofs.leaves.ordered_leaves.Given as goal

abbrev pub invariant-loop-place : goal.invariant-loop-place
invariant-loop-place g l = record {
  are : map (leaf_in (g.S.LineSource.items l.source)) l.leaves.items
      ≡ filter_map (λ place. slice_get (leaves_from 0 l.levels.items (g.S.LineSource.items l.source)) place) (take l.place-index l.place-items);
  within : All (λ leaf. leaf.place < length (g.S.LineSource.items l.source)) l.leaves.items;
  room : vec_len l.leaves + (length l.place-items - l.place-index) ≤ vec_capacity l.leaves;
}
