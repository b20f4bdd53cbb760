use Rattle.wm_chars.specs.declared.rows.TheConstants.{ROWS}
use Rattle.wm_chars.proofs.Ascending.{row_at, apart, the_rows_climb}
use Rattle.wm_chars.proofs.laws.rows_ascend.Goals as goal

pub returns : goal.returns
returns c = record { whole = λ k d lt. (row_at 0 ROWS the_rows_climb k d lt).1; apart = apart 0 ROWS the_rows_climb }
