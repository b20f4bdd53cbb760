-- Text in which each character is a unit by itself, but for the bidi controls.
use Rattle.std.specs.Prelude.{ℕ, ◌+◌, Bool, ◌&&◌, ◌||◌, not, List, [], ◌∷◌, Option, Some, None}
use Rattle.std.specs.List.{list_all}
use Rattle.face_api.specs.Table.{Table}
use Rattle.style_types.specs.declared.style.Style.{Style}
use Rattle.cluster_units.specs.Plain.{character_joins, character_unit, combines_none, is_plain}
use Rattle.cluster_units.specs.declared.unit.Unit.{Unit}
use Rattle.para_prepare.specs.declared.letter.Letter.{Letter}
use Rattle.para_prepare.specs.Parts.{Part, control_of, item, of_unit, sets_upright}

abbrev pub are_plain : List Letter → Bool
are_plain letters = list_all (λ l. is_plain l.char) letters

-- whether each, told by itself, belongs to no run that may be combined in this style
abbrev pub are_apart : Style → List Letter → Bool
are_apart style letters = list_all (λ l. not (character_joins style l.char)) letters

-- most styles say so of any text
abbrev pub join_none : Style → List Letter → Bool
join_none style letters = combines_none style || are_apart style letters

-- whether each is a unit by itself in this style, but for the bidi controls
abbrev pub stand_alone : Style → List Letter → Bool
stand_alone style letters = join_none style letters && are_plain letters

abbrev pub letter_part : (upright : Bool) → (source node : ℕ) → Letter → Option Unit → Part
letter_part upright source node l None = control_of upright l
letter_part upright source node l (Some unit) = item (of_unit source node upright unit (l ∷ []))

-- the parts of such characters by this face, the first at this place of their text
abbrev pub letter_parts : Table → (source node : ℕ) → Style → (place : ℕ) → List Letter → List Part
letter_parts table source node style place [] = []
letter_parts table source node style place (l ∷ letters) =
    letter_part (sets_upright style) source node l (character_unit style table place l.char) ∷ letter_parts table source node style (place + 1) letters
