use Rattle.std.proofs.Common.{◌<◌}
use Rattle.std.specs.List.{AllWithin}
use Rattle.wm_chars.specs.declared.rows.TheConstants.{ROWS}
use Rattle.wm_chars.proofs.repertoire.rows_before_from.Given as goal

abbrev pub invariant-loop-i : goal.invariant-loop-i
invariant-loop-i l = AllWithin (λ row. row.last < l.c) ROWS 0 l.i
