-- No advance of a table is beyond its bounds.
use Rattle.std.proofs.Common.{◌≡◌, ℕ, ◌≤◌, Bool, true, false, Option, Some, None, sym, refl}
use Rattle.std.specs.Prelude.{if◌then◌else◌, nat_le, option_map, unwrap_or}
use Rattle.face_api.specs.declared.row.Row.{Row}
use Rattle.face_api.specs.Table.{Table, IsTable, advance_of, default_of, row_for}
use Rattle.face_api.proofs.RowLaws.{value_most}

either_most : (b : Bool) (m n : ℕ) → m ≤ 10000 → n ≤ 10000 → (if b then m else n) ≤ 10000
either_most true m n one other = one
either_most false m n one other = other

default_most : (table : Table) (c : ℕ) (upright : Bool) → IsTable table → default_of table.defaults c upright ≤ 10000
default_most table c upright is =
    either_most upright table.defaults.upright _ is.upright (either_most (nat_le 0x2E80 c) table.defaults.wide table.defaults.narrow is.wide is.narrow)

pub advance_most : (table : Table) (c : ℕ) (upright : Bool) → IsTable table → advance_of table c upright ≤ 10000
unfolding advance_of
advance_most table c upright is = go (row_for table.rows c upright) refl
  where
    go : (found : Option Row) → row_for table.rows c upright ≡ found → unwrap_or (option_map (λ row. row.value) found) (default_of table.defaults c upright) ≤ 10000
    go None e = default_most table c upright is
    go (Some row) e = value_most table.rows c upright row is.are_rows (sym e)
