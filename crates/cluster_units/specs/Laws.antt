-- Where units stand in their text, and how long they are.
use Rattle.std.specs.Prelude.{ℕ, ◌≡◌, ◌+◌, ◌-◌, ◌*◌, ◌<◌, ◌≤◌, ⊤, true, false, not, List, [], ◌∷◌, length, Some, pos, ◌≤ℤ◌}
use Rattle.std.specs.List.{list_all}
use Rattle.face_api.specs.Table.{Table, IsTable}
use Rattle.style_types.specs.declared.style.Style.{Style}
use Rattle.cluster_units.specs.Plain.{character_joins, character_unit, character_units, is_plain}
use Rattle.cluster_units.specs.Text.{is_combined}
use Rattle.cluster_units.specs.Unit.{units_of}
use Rattle.cluster_units.specs.declared.unit.Unit.{Unit}

-- a unit between a place and the end of its text. No character advances by more than 655,360: ten times the greatest
-- font size.
pub record IsUnitIn (place end_ : ℕ) (unit : Unit) : Type 0 where
  pub behind : place ≤ unit.first
  pub some : unit.first < unit.end
  pub within : unit.end ≤ end_
  pub advance_low : pos 0 ≤ℤ unit.advance
  pub advance_high : unit.advance ≤ℤ pos 655360
  pub natural_low : pos 0 ≤ℤ unit.natural
  pub natural_high : unit.natural ≤ℤ pos (655360 * (unit.end - unit.first))

-- units one behind the other, from a place on
abbrev pub AreInOrder : (place end_ : ℕ) → List Unit → Type 0
AreInOrder place end_ [] = ⊤
AreInOrder place end_ (unit ∷ units) = IsUnitIn place end_ unit × AreInOrder unit.end end_ units

-- the units of a text stand in order in it
abbrev pub StandInOrder : Type 0
StandInOrder = (style : Style) (table : Table) (text : List ℕ) → IsTable table → pos 0 ≤ℤ style.font_size → style.font_size ≤ℤ pos 65536
    → AreInOrder 0 (length text) (units_of style table text)

-- the units of plain text, where no character joins a run, are those of its characters
abbrev pub AreOfCharacters : Type 0
AreOfCharacters =
    (style : Style) (table : Table) (text : List ℕ) → list_all is_plain text ≡ true → list_all (λ c. not (character_joins style c)) text ≡ true
    → units_of style table text ≡ character_units style table 0 text

-- such a unit is of its character alone, and no combined run
abbrev pub AreApart : Type 0
AreApart = (style : Style) (table : Table) (place c : ℕ) (unit : Unit) → Some unit ≡ character_unit style table place c
    → (unit.first ≡ place) × (unit.end ≡ place + 1) × (is_combined unit.kind ≡ false)
