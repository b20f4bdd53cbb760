use Rattle.std.proofs.Common.{◌/◌, arith}
use Rattle.wm_chars.proofs.Blocks.{ascii_rows_end, block_rows_end}
use Rattle.wm_chars.proofs.repertoire.rows_before.Goals as goal

pub rows_before_from-requires : goal.rows_before_from-requires
rows_before_from-requires c = λ k d low high. ascii_rows_end c.args.c k d c.if-code-lt128.true (rw c.from.ensures at high)

pub rows_before_from-requires-then-block-lt128 : goal.rows_before_from-requires-then-block-lt128
rows_before_from-requires-then-block-lt128 c = λ k d low high. block_rows_end c.args.c (c.args.c / 16) k d c.if-block-lt128.true (omega arith) (rw c.from-then-block-lt128.ensures at high)
