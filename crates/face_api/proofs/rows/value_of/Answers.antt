use Rattle.std.proofs.Common.{◌∙◌, sym}
use Rattle.face_api.proofs.RowLaws.{value_most}
use Rattle.face_api.proofs.rows.value_of.Goals as goal

pub returns-clause-most : goal.returns-clause-most
returns-clause-most c = value_most c.args.rows.now c.args.c c.args.upright c.in_ok-row.row c.requires (sym c.in_ok-row.was ∙ c.row_at.ensures)
