-- Where the row of a character stands among rows that ascend.
use Rattle.std.specs.Prelude.{ℕ, ◌<◌, ◌≤◌, List, length, take, drop, All}
use Rattle.face_api.specs.Table.{rank_of}
use Rattle.face_api.specs.declared.row.Row.{Row}

-- the rows below the place stand before this rank, the others do not
pub record DividesAt (rows : List Row) (at place : ℕ) : Type 0 where
  pub before : All (λ row. rank_of row < at) (take place rows)
  pub behind : All (λ row. at ≤ rank_of row) (drop place rows)
  pub within : place ≤ length rows
