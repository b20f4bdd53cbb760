-- The content of a paragraph once its texts are cut: ends of inline boxes, bidi controls, items (CSS Writing Modes 4, 5.1
-- and 9.1; UAX 29).
use Rattle.std.specs.Prelude.{ℕ, Bool, ◌&&◌, if◌then◌else◌, List, [], ◌∷◌, ◌++◌, map, drop, Option, unwrap_or}
use Rattle.std.specs.List.{slice_range}
use Rattle.face_api.specs.Table.{Table}
use Rattle.face_api.specs.Living.{used_table}
use Rattle.wm_chars.specs.Repertoire.{bidi_class}
use Rattle.wm_chars.specs.declared.classes.BidiClass.{BidiClass}
use Rattle.wm_chars.specs.declared.classes.BidiClass.TheVariants.{L, ON}
use Rattle.wm_modes.specs.declared.mode.Direction.{Direction}
use Rattle.wm_modes.specs.Sides as sides
use Rattle.fragment_types.specs.declared.item.BoxName.{BoxName}
use Rattle.style_types.specs.declared.style.Style.{Style}
use Rattle.style_types.specs.declared.style.UnicodeBidi.{UnicodeBidi}
use Rattle.style_types.specs.Style.{is_upright}
use Rattle.cluster_units.specs.Unit.{is_vertical, units_of}
use Rattle.cluster_units.specs.declared.unit.Unit.{Unit}
use Rattle.para_prepare.specs.declared.letter.Letter.{Letter}

abbrev pub used_direction : Style → Direction
used_direction style = sides.used_direction style.mode (is_upright style.orientation) style.direction

-- whether text is set upright: then all of it is strong from left to right
abbrev pub sets_upright : Style → Bool
sets_upright style = is_vertical style.mode && is_upright style.orientation

-- the class of a character in a text that is set upright or not (CSS Writing Modes 4, 5.1)
abbrev pub class_in : (upright : Bool) → ℕ → BidiClass
class_in upright c = if upright then L else unwrap_or (bidi_class c) ON

-- an item as it comes from its node: a unit with its kept characters, a combined run with the units inside it in visual order,
-- an inline-block, a line break
pub data Raw : Type 0 where
  of_unit : (source node : ℕ) (upright : Bool) (unit : Unit) (letters : List Letter) → Raw
  of_combined : (source node : ℕ) (unit : Unit) (letters : List Letter) (inside : List (List ℕ)) → Raw
  of_atom : (source : ℕ) (name : BoxName) → Raw
  of_break : (source node : ℕ) → Raw

pub data Part : Type 0 where
  opens : (bidi : UnicodeBidi) (dir : Direction) → Part
  closes : Part
  control : (c : ℕ) (class : BidiClass) → Part
  item : Raw → Part

abbrev pub control_of : (upright : Bool) → Letter → Part
control_of upright l = control l.char (class_in upright l.char)

-- the parts of a text from a place of its kept characters on: a character that no unit covers is a control
abbrev pub parts_by : (upright : Bool) → (raw : Unit → List Letter → Raw) → List Letter → (at : ℕ) → List Unit → List Part
parts_by upright raw letters at [] = map (control_of upright) (drop at letters)
parts_by upright raw letters at (unit ∷ units) =
    map (control_of upright) (slice_range letters at unit.first)
    ++ item (raw unit (slice_range letters unit.first unit.end)) ∷ parts_by upright raw letters unit.end units

-- the units of kept characters in this style
abbrev pub units_in : List (Option Table) → Style → List Letter → List Unit
units_in faces style letters = units_of style (used_table faces style.face) (map (λ l. l.char) letters)

-- the items among parts
abbrev pub raws : List Part → List Raw
raws [] = []
raws (item raw ∷ parts) = raw ∷ raws parts
raws (opens bidi dir ∷ parts) = raws parts
raws (closes ∷ parts) = raws parts
raws (control c class ∷ parts) = raws parts
