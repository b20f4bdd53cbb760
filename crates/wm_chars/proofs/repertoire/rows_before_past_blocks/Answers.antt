use Rattle.wm_chars.proofs.Blocks.{han_rows_end, kana_rows_end}
use Rattle.wm_chars.proofs.repertoire.rows_before_past_blocks.Goals as goal

pub rows_before_from-requires : goal.rows_before_from-requires
rows_before_from-requires c = λ k d low high. han_rows_end c.args.c k d c.if-c-ge19968.true high

pub rows_before_from-requires-then-c-le12543 : goal.rows_before_from-requires-then-c-le12543
rows_before_from-requires-then-c-le12543 c = λ k d low high. kana_rows_end c.args.c k d c.if-c-ge12353.true high
