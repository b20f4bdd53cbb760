use Rattle.std.proofs.Common.{◌<◌, ◌≤◌, nat_lt, rules}
use Rattle.std.proofs.lemmas.Bool.{ltb-true, ltb-false}
use Rattle.std.proofs.lemmas.List.Sorted.{IsPartitionPoint-from_clause, IsPartitionedBy-ltb}
use Rattle.face_api.specs.Table.{rank, rank_of}
use Rattle.face_api.proofs.RowLaws.{non_decreasing, all_before, all_behind}
use Rattle.face_api.proofs.rows.rows_before.Goals as goal

pub returns : goal.returns
returns c =
    let rows = c.args.rows.now in
    let at = rank c.args.c c.args.upright in
    let parted = IsPartitionedBy-ltb rank_of rows at (non_decreasing rows c.requires) in
    let point = IsPartitionPoint-from_clause (λ row. nat_lt (rank_of row) at) rows _ c.partition_point.ensures.partitioned parted (λ a r q k. search rules) in
    record {
      before = all_before (λ row. rank_of row < at) rows _ c.partition_point.ensures.bound (λ k d low high. ltb-true _ _ (point.0 k d low high));
      behind = all_behind (λ row. at ≤ rank_of row) rows _ (λ k d low high. ltb-false _ _ (point.1 k d low high));
      within = c.partition_point.ensures.bound;
    }
