-- What a face means: a table of advances, in thousandths of the font size.
use Rattle.std.specs.Prelude.{◌≡◌, ℕ, ◌+◌, ◌*◌, ◌<◌, ◌≤◌, Bool, false, ◌||◌, ◌==◌, nat_lt, nat_le, if◌then◌else◌, List, ◌∷◌, ◌++◌, length, filter, find, Option, None, is_some, option_map, unwrap_or, All, AllPairs, IsTrue}
use Rattle.face_api.specs.declared.row.Row.{Row}
use Rattle.face_api.specs.declared.row.Metrics.{Metrics}
use Rattle.face_api.specs.declared.row.Defaults.{Defaults}

pub record Table : Type 0 where
  pub metrics : Metrics
  pub defaults : Defaults
  pub rows : List Row
  pub fixed : Bool

abbrev pub table_of : Metrics → Defaults → List Row → Bool → Table
table_of metrics defaults rows fixed = record { metrics = metrics; defaults = defaults; rows = rows; fixed = fixed }

-- where the row of a character stands: rows go by their characters, the plain one before the upright one
abbrev pub rank : ℕ → Bool → ℕ
rank c upright = 2 * c + (if upright then 1 else 0)

abbrev pub rank_of : Row → ℕ
rank_of row = rank row.character row.upright

-- the row of this character and orientation, if there is one
abbrev pub row_for : List Row → ℕ → Bool → Option Row
row_for rows c upright = find (λ row. rank_of row == rank c upright) rows

-- the advance where there is no row
abbrev pub default_of : Defaults → ℕ → Bool → ℕ
default_of defaults c upright =
    if upright then defaults.upright else (if nat_le 0x2E80 c then defaults.wide else defaults.narrow)

unfoldable pub advance_of : Table → ℕ → Bool → ℕ
advance_of table c upright =
    unwrap_or (option_map (λ row. row.value) (row_for table.rows c upright)) (default_of table.defaults c upright)

-- the rows with one more, or with one in the place of another
abbrev pub rows_with : List Row → Row → List Row
rows_with rows row =
    filter (λ other. nat_lt (rank_of other) (rank_of row)) rows ++ row ∷ filter (λ other. nat_lt (rank_of row) (rank_of other)) rows

-- the table in which this advance is the character's
unfoldable pub set_row : Table → ℕ → Bool → ℕ → Table
set_row table c upright value =
    record table { rows = rows_with table.rows (record { character = c; upright = upright; value = value }) }

-- the rows are the most that there can be, and the character has none
pub record IsCrowded (rows : List Row) (c : ℕ) (upright : Bool) : Type 0 where
  pub most : length rows ≡ 4096
  pub missing : row_for rows c upright ≡ None

-- there can be one more, or the character has one
abbrev pub HasRoom : List Row → ℕ → Bool → Type 0
HasRoom rows c upright = IsTrue (nat_lt (length rows) 4096 || is_some (row_for rows c upright))

-- no row of the character can be put
pub record IsFull (table : Table) (c : ℕ) (upright : Bool) : Type 0 where
  pub editable : table.fixed ≡ false
  pub crowded : IsCrowded table.rows c upright

-- a row of the character can be put or replaced
pub record TakesRow (table : Table) (c : ℕ) (upright : Bool) : Type 0 where
  pub editable : table.fixed ≡ false
  pub room : HasRoom table.rows c upright

-- the rows ascend, so no two are of one character and orientation
abbrev pub Ascend : List Row → Type 0
Ascend = AllPairs (λ earlier later. rank_of earlier < rank_of later)

-- what holds of the rows of every face
pub record AreRows (rows : List Row) : Type 0 where
  pub values : All (λ row. row.value ≤ 10000) rows
  pub ascending : Ascend rows
  pub few : length rows ≤ 4096

-- what holds of the table of every face
pub record IsTable (table : Table) : Type 0 where
  pub ascent : table.metrics.ascent ≤ 4000
  pub descent : table.metrics.descent ≤ 4000
  pub narrow : table.defaults.narrow ≤ 10000
  pub wide : table.defaults.wide ≤ 10000
  pub upright : table.defaults.upright ≤ 10000
  pub are_rows : AreRows table.rows
