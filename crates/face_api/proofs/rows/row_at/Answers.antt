use Rattle.std.proofs.Common.{◌≡◌, ◌∙◌, Some, length, sym, refl, rules}
use Rattle.std.specs.Prelude.{slice_get}
use Rattle.std.proofs.lemmas.Option.{slice_get_past, slice_get_read}
use Rattle.face_api.proofs.RowLaws.{none_past, found_here, missing_here}
use Rattle.face_api.proofs.rows.row_at.Goals as goal

pub returns-in_err-row : goal.returns-in_err-row
returns-in_err-row c =
    c.from_residual.ensures ∙ sym (none_past c.args.rows.now c.args.c c.args.upright c.args.place c.requires.place (slice_get_past c.args.rows.now c.args.place (search rules)))

pub returns-then-is_for : goal.returns-then-is_for
returns-then-is_for c =
    let at : slice_get c.args.rows.now c.args.place ≡ Some c.in_ok-row.field-0.now = slice_get_read c.args.rows.now (length c.args.rows.now) c.args.place c.in_ok-row.field-0.now refl (search rules) (search rules) in
    sym (found_here c.args.rows.now c.args.c c.args.upright c.args.place c.in_ok-row.field-0.now c.requires.place at (sym c.is_for.ensures ∙ c.if-is_for.true))

pub returns-else-is_for : goal.returns-else-is_for
returns-else-is_for c =
    let at : slice_get c.args.rows.now c.args.place ≡ Some c.in_ok-row.field-0.now = slice_get_read c.args.rows.now (length c.args.rows.now) c.args.place c.in_ok-row.field-0.now refl (search rules) (search rules) in
    sym (missing_here c.args.rows.now c.args.c c.args.upright c.args.place c.in_ok-row.field-0.now c.requires.ascending c.requires.place at (sym c.is_for.ensures ∙ c.if-is_for.false))
