use Rattle.std.proofs.Common.{◌≡◌, ◌<◌, ◌≤◌, ◌∙◌, true, false, length, sym, subst, rules}
use Rattle.std.specs.Prelude.{is_some}
use Rattle.face_api.specs.Rows.{DividesAt}
use Rattle.face_api.specs.Table.{Ascend, rank, rank_of, row_for}
use Rattle.face_api.proofs.RowLaws.{found_within, replaced, inserted, few_replaced, few_inserted, are_with}
use Rattle.face_api.proofs.rows.put.Goals as goal

pub rows_before-place-requires : goal.rows_before-place-requires
rows_before-place-requires c = subst Ascend (sym c.deref.ensures.value) c.requires.rows.ascending

pub row_at-requires-clause-ascending : goal.row_at-requires-clause-ascending
row_at-requires-clause-ascending c = subst Ascend (sym c.deref-2.ensures.value) c.requires.rows.ascending

pub index_mut-requires : goal.index_mut-requires
index_mut-requires c =
    let row = c.args.row in
    let divides = subst (λ rows. DividesAt rows (rank row.character row.upright) c.rows_before-place.result) c.deref.ensures.value c.rows_before-place.ensures in
    let found : is_some (row_for c.args.rows.now.items row.character row.upright) ≡ true = search rules in
    let inside = found_within c.args.rows.now.items row.character row.upright c.rows_before-place.result c.requires.rows.ascending divides found in
    search rules

pub returns-then-found-clause-row : goal.returns-then-found-clause-row
returns-then-found-clause-row c =
    let row = c.args.row in
    let divides = subst (λ rows. DividesAt rows (rank_of row) c.rows_before-place.result) c.deref.ensures.value c.rows_before-place.ensures in
    let found : is_some (row_for c.args.rows.now.items row.character row.upright) ≡ true = search rules in
    replaced c.args.rows.now.items row c.rows_before-place.result c.requires.rows.ascending divides found

pub returns-then-found-clause-rows : goal.returns-then-found-clause-rows
returns-then-found-clause-rows c =
    let row = c.args.row in
    let divides = subst (λ rows. DividesAt rows (rank_of row) c.rows_before-place.result) c.deref.ensures.value c.rows_before-place.ensures in
    let found : is_some (row_for c.args.rows.now.items row.character row.upright) ≡ true = search rules in
    are_with c.args.rows.now.items row _ c.requires.rows c.requires.value (replaced c.args.rows.now.items row c.rows_before-place.result c.requires.rows.ascending divides found)
    (few_replaced c.args.rows.now.items c.rows_before-place.result row c.requires.rows.few)

pub returns-clause-row : goal.returns-clause-row
returns-clause-row c =
    let row = c.args.row in
    let divides = subst (λ rows. DividesAt rows (rank_of row) c.rows_before-place.result) c.deref.ensures.value c.rows_before-place.ensures in
    let missing : is_some (row_for c.args.rows.now.items row.character row.upright) ≡ false = search rules in
    c.in_ok-insert.ensures.items ∙ inserted c.args.rows.now.items row c.rows_before-place.result c.requires.rows.ascending divides missing

pub returns-clause-rows : goal.returns-clause-rows
returns-clause-rows c =
    let row = c.args.row in
    let divides = subst (λ rows. DividesAt rows (rank_of row) c.rows_before-place.result) c.deref.ensures.value c.rows_before-place.ensures in
    let missing : is_some (row_for c.args.rows.now.items row.character row.upright) ≡ false = search rules in
    let room : length c.args.rows.now.items < 4096 = search rules in
    are_with c.args.rows.now.items row _ c.requires.rows c.requires.value
    (c.in_ok-insert.ensures.items ∙ inserted c.args.rows.now.items row c.rows_before-place.result c.requires.rows.ascending divides missing)
    (subst (λ rows. length rows ≤ 4096) (sym c.in_ok-insert.ensures.items) (few_inserted c.args.rows.now.items c.rows_before-place.result row room))
