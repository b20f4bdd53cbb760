-- The row of the table in which a character stands, and what that row says of it: the bidi class (UAX 9,
-- table 4), the orientation (UAX 50), the break class. The table itself is ROWS in src/rows.rt.
use Rattle.std.specs.Prelude.{ℕ, ◌<◌, ◌≤◌, Bool, ◌&&◌, leb, length, find, Option, option_map}
use Rattle.std.specs.List.{AllWithin}
use Rattle.wm_chars.specs.declared.classes.BidiClass.{BidiClass}
use Rattle.wm_chars.specs.declared.classes.Orient.{Orient}
use Rattle.wm_chars.specs.declared.classes.BreakClass.{BreakClass}
use Rattle.wm_chars.specs.declared.rows.Row.{Row}
use Rattle.wm_chars.specs.declared.rows.TheConstants.{ROWS}

-- whether a row has the character
abbrev pub has : ℕ → Row → Bool
has c row = leb row.first c && leb c row.last

-- the row that has it
unfoldable pub row_of : ℕ → Option Row
row_of c = find (has c) ROWS

unfoldable pub bidi_class : ℕ → Option BidiClass
bidi_class c = option_map (λ row. row.class) (row_of c)

unfoldable pub orientation : ℕ → Option Orient
orientation c = option_map (λ row. row.orient) (row_of c)

unfoldable pub break_class : ℕ → Option BreakClass
break_class c = option_map (λ row. row.breaks) (row_of c)

-- the rows below the place end before the character, the others do not
pub record DividesAt (c place : ℕ) : Type 0 where
  pub before : AllWithin (λ row. row.last < c) ROWS 0 place
  pub behind : AllWithin (λ row. c ≤ row.last) ROWS place (length ROWS)
