use Rattle.std.proofs.Common.{ltb, rules}
use Rattle.std.proofs.lemmas.Bool.{ltb-true, ltb-false}
use Rattle.std.proofs.lemmas.List.Sorted.{IsPartitionPoint-from_clause, IsPartitionedBy-ltb}
use Rattle.wm_chars.specs.declared.rows.TheConstants.{ROWS}
use Rattle.wm_chars.proofs.Ascending.{ends_ascend, the_rows_climb}
use Rattle.wm_chars.proofs.repertoire.rows_before_by_halves.Goals as goal

pub returns : goal.returns
returns c =
    let parted = IsPartitionedBy-ltb (λ row. row.last) ROWS c.args.c (ends_ascend 0 ROWS the_rows_climb) in
    let point = IsPartitionPoint-from_clause (λ row. ltb row.last c.args.c) ROWS _ c.partition_point.ensures.partitioned parted (λ a r q k. search rules) in
    record { before = λ k d low high. ltb-true _ _ (point.0 k d low high); behind = λ k d low high. ltb-false _ _ (point.1 k d low high) }
