-- What the lines of a paragraph are made from, and the line of some of its items (CSS 2, 9.4.2).
use Rattle.std.specs.Prelude.{◌≡◌, ℕ, ◌+◌, ◌*◌, ◌≤◌, ◌^◌, List, [], drop, take, length, map, All, Option, ℤ, unsigned_abs}
use Rattle.std.specs.List.{slice_range}
use Rattle.face_api.specs.Table.{Table}
use Rattle.fragment_types.specs.Item.{Entry}
use Rattle.fragment_types.specs.Fragment.{Pieces}
use Rattle.line_place.specs.Line.{Line}
use Rattle.line_place.specs.Placing.{line_over, line_under, parts}
use Rattle.line_place.specs.Reach.{total}
use Rattle.line_place.specs.Spread.{spread}
use Rattle.para_lines.specs.declared.paragraph.Container.{Container}
use Rattle.para_lines.specs.declared.setting.Setting as code
use Rattle.para_lines.specs.Line.{standing_of}
use Rattle.para_lines.specs.Lines.{Standing, chain_of_first, chain_of_last, line}
use Rattle.para_lines.specs.Reach.{HoldsWithin, standing_reach}

abbrev pub entries_in : code.Setting → List Entry
entries_in setting = setting.boxes.now

abbrev pub standings_in : code.Setting → List Standing
standings_in setting = map (standing_of (entries_in setting)) setting.standings.now

-- the line of the items from one place up to another
abbrev pub line_between : List (Option Table) → Container → List Entry → List Standing → (from end_ : ℕ) → Line
line_between faces container entries standings from end_ =
    line faces container entries (chain_of_last [] (take from standings)) (chain_of_first (drop end_ standings)) (slice_range standings from end_)

-- how far the items from one place up to another reach
abbrev pub room_between : List Standing → (from end_ : ℕ) → ℕ
room_between standings from end_ = total standing_reach (slice_range standings from end_)

-- how far the line of the items from one place up to another reaches at most, in a paragraph with so many entries
abbrev pub reach_between : (count : ℕ) → List Standing → (from end_ : ℕ) → ℕ
reach_between count standings from end_ = 2 ^ 32 + 2 ^ 36 + room_between standings from end_ + count * 2 ^ 37

-- how far any of its lines does with all inside it, but for what stands inside atoms
abbrev pub lines_reach : (count : ℕ) → List Standing → ℕ
lines_reach count standings = count * (5 * 2 ^ 39) + length standings * 2 ^ 35 + 16 * total standing_reach standings

-- the items from one place up to another are some of so many
pub record IsPart (from end_ count : ℕ) : Type 0 where
  pub order : from ≤ end_
  pub within : end_ ≤ count

-- the line box of a line: how far it reaches over and under its baseline, and its fragments
pub record IsLineBox (line : Line) (over under : ℤ) (made : Pieces) : Type 0 where
  pub over_is : over ≡ line_over line
  pub under_is : under ≡ line_under line
  pub parts_are : made ≡ parts line

-- the line box of the items from one place up to another, which is as near as these can reach
pub record IsPlaced (setting : code.Setting) (tables : List (Option Table)) (from end_ : ℕ) (over under : ℤ) (made : Pieces) : Type 0 where
  pub line_box : IsLineBox (line_between tables setting.container.now (entries_in setting) (standings_in setting) from end_) over under made
  pub over_near : unsigned_abs over ≤ 2 ^ 34 + room_between (standings_in setting) from end_
  pub under_near : unsigned_abs under ≤ 2 ^ 34 + room_between (standings_in setting) from end_
  pub within : (most : ℕ) → All (HoldsWithin most) (standings_in setting) → spread made ≤ 12 * reach_between (length setting.boxes.now) (standings_in setting) from end_ + most
