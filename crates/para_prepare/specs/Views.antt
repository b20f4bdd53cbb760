-- The parts of a paragraph as the code holds them: places in the list of all kept characters stand for these characters.
use Rattle.std.specs.Prelude.{ℕ, ◌≡◌, length, ◌+◌, ◌-◌, ◌*◌, ◌<◌, ◌≤◌, ◌^◌, ⊤, Bool, true, cond, List, [], ◌∷◌, ◌++◌, map, drop, Option, Some, None, pos, ◌≤ℤ◌}
use Rattle.std.specs.List.{slice_range}
use Rattle.face_api.specs.Table.{Table}
use Rattle.style_types.specs.declared.style.Style.{Style}
use Rattle.fragment_types.specs.Item.{Entry, text, begins, ends, atom, line_break}
use Rattle.cluster_units.specs.Text.{is_combined}
use Rattle.cluster_units.specs.declared.unit.Unit.{Unit}
use Rattle.para_prepare.specs.declared.letter.Letter.{Letter}
use Rattle.para_prepare.specs.Content.{text_parts}
use Rattle.para_prepare.specs.Inside.{inside}
use Rattle.para_prepare.specs.declared.parts.Part as code
use Rattle.para_prepare.specs.declared.parts.Part.TheVariants as codes
use Rattle.para_prepare.specs.declared.parts.Span.{Span}
use Rattle.para_prepare.specs.Items.{first_place, place_behind}
use Rattle.para_prepare.specs.Parts.{Part, Raw, opens, closes, control, item, of_unit, of_combined, of_atom, of_break, class_in, sets_upright, used_direction}

abbrev pub letters_at : List Letter → Span → List Letter
letters_at letters span = slice_range letters span.from span.to

abbrev pub part_of : List Letter → code.Part → Part
part_of letters (codes.Opens around) = opens around.bidi around.dir
part_of letters codes.Closes = closes
part_of letters (codes.Control c class) = control c class
part_of letters (codes.Unit source node upright unit span) = item (of_unit source node upright unit (letters_at letters span))
part_of letters (codes.Combined source node unit span inside) = item (of_combined source node unit (letters_at letters span) inside)
part_of letters (codes.Atom source name) = item (of_atom source name)
part_of letters (codes.Break source node) = item (of_break source node)

abbrev pub parts_of : List Letter → List code.Part → List Part
parts_of letters = map (part_of letters)

-- a span of some characters
pub record IsSpan (many : ℕ) (span : Span) : Type 0 where
  pub some : span.from < span.to
  pub within : span.to ≤ many

abbrev pub IsPart : (many : ℕ) → code.Part → Type 0
IsPart many (codes.Unit source node upright unit span) = IsSpan many span
IsPart many (codes.Combined source node unit span inside) = IsSpan many span
IsPart many _ = ⊤

-- a unit of so many characters
pub record IsUnitOf (many : ℕ) (unit : Unit) : Type 0 where
  pub order : unit.first ≤ unit.end
  pub within : unit.end ≤ many

-- a character stands at a place of a text, and so does what comes behind it
abbrev pub IsPlaced : Letter → Type 0
IsPlaced letter = letter.place + 1 < 2 ^ 32

-- how long a unit may be: no character advances by more than 655,360
pub record IsSize (unit : Unit) : Type 0 where
  pub advance_low : pos 0 ≤ℤ unit.advance
  pub advance_high : unit.advance ≤ℤ pos 655360
  pub natural_low : pos 0 ≤ℤ unit.natural
  pub natural_high : unit.natural ≤ℤ pos (655360 * (unit.end - unit.first))

-- a combined run has the characters of its span, and advances one font size
pub record IsRunSize (unit : Unit) (span : Span) : Type 0 where
  pub size : IsSize unit
  pub one : unit.advance ≤ℤ pos 65536
  pub many : unit.end - unit.first ≡ span.to - span.from

-- so by the style of its text
abbrev pub HasOneSize : Style → Unit → Type 0
HasOneSize style unit = is_combined unit.kind ≡ true → unit.advance ≡ style.font_size

abbrev pub HasSize : code.Part → Type 0
HasSize (codes.Unit source node upright unit span) = IsSize unit
HasSize (codes.Combined source node unit span inside) = IsRunSize unit span
HasSize _ = ⊤

abbrev pub IsSound : (many : ℕ) → code.Part → Type 0
IsSound many part = IsPart many part × HasSize part

-- a combined run has as many places as characters at least
abbrev pub IsCovered : Raw → Type 0
IsCovered (of_combined source node unit letters inside) = length letters ≤ place_behind letters - first_place letters
IsCovered _ = ⊤

-- a control as the code holds it
abbrev pub stored_control : (upright : Bool) → Letter → code.Part
stored_control upright l = codes.Control l.char (class_in upright l.char)

-- where the characters of a unit stand, in a text whose own begin at this place
abbrev pub span_of : (from : ℕ) → Unit → Span
span_of from unit = record { from = from + unit.first; to = from + unit.end }

-- the parts of a text's characters as the code holds them
abbrev pub stored_by : (upright : Bool) → (stored : Unit → code.Part) → List Letter → (at : ℕ) → List Unit → List code.Part
stored_by upright stored letters at [] = map (stored_control upright) (drop at letters)
stored_by upright stored letters at (unit ∷ units) =
    map (stored_control upright) (slice_range letters at unit.first) ++ stored unit ∷ stored_by upright stored letters unit.end units

-- a unit as the code holds it
abbrev pub stored_unit : (source node : ℕ) → (upright : Bool) → (from : ℕ) → Unit → code.Part
stored_unit source node upright from unit = codes.Unit source node upright unit (span_of from unit)

-- a character that is a unit by itself, or a bidi control
abbrev pub stored_letter : (source node : ℕ) → (upright : Bool) → (from : ℕ) → Letter → Option Unit → code.Part
stored_letter source node upright from l None = stored_control upright l
stored_letter source node upright from l (Some unit) = stored_unit source node upright from unit

-- a unit, or a combined run
abbrev pub stored_run : List (Option Table) → List Letter → (source node : ℕ) → Style → (from : ℕ) → Unit → code.Part
stored_run faces letters source node style from unit =
    cond (is_combined unit.kind)
    (codes.Combined source node unit (span_of from unit) (inside faces style (letters_at letters (span_of from unit))))
    (stored_unit source node (sets_upright style) from unit)

-- the parts of an item of the paragraph, by its kept characters
abbrev pub item_parts : List (Option Table) → (source : ℕ) → Entry → List Letter → List Part
item_parts faces source (text node bytes style) letters = text_parts faces source node style letters
item_parts faces source (begins node style edges) letters = opens style.bidi (used_direction style) ∷ []
item_parts faces source (ends node edges) letters = closes ∷ []
item_parts faces source (atom name) letters = item (of_atom source name) ∷ []
item_parts faces source (line_break node) letters = item (of_break source node) ∷ []
