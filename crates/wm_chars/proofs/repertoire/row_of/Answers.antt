use Rattle.std.proofs.Common.{◌∙◌, sym, rules}
use Rattle.wm_chars.proofs.Ascending.{past_the_rows, in_the_row, before_the_row}
use Rattle.wm_chars.proofs.repertoire.row_of.Goals as goal

pub returns-in_err-row : goal.returns-in_err-row
returns-in_err-row c = c.from_residual.ensures ∙ sym (past_the_rows c.args.c _ c.rows_before.ensures (search rules))

pub returns-then-row-c : goal.returns-then-row-c
returns-then-row-c c = sym (in_the_row c.args.c _ c.in_ok-row.field-0.now c.rows_before.ensures (search rules) (search rules) c.if-row-c.true)

pub returns-else-row-c : goal.returns-else-row-c
returns-else-row-c c = sym (before_the_row c.args.c _ c.in_ok-row.field-0.now c.rows_before.ensures (search rules) (search rules) c.if-row-c.false)
