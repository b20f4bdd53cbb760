-- Characters that are clusters by themselves among their like: those of Latin text, letters of Greek, Cyrillic, Hebrew and Arabic,
-- kana, Han and Hangul syllables, punctuation and bidi controls. None is a mark, and none joins its like.
use Rattle.std.specs.Prelude.{ℕ, ◌+◌, Bool, ◌&&◌, ◌||◌, ◌==◌, true, false, not, nat_le, nat_lt, if◌then◌else◌, List, [], ◌∷◌, Option, Some, None}
use Rattle.face_api.specs.Table.{Table}
use Rattle.style_types.specs.declared.style.Combine.{Combine}
use Rattle.style_types.specs.declared.style.Combine.TheVariants.{Never}
use Rattle.style_types.specs.declared.style.Style.{Style}
use Rattle.cluster_units.specs.Unit.{cluster_unit, is_vertical, joins}
use Rattle.cluster_units.specs.declared.unit.Unit.{Unit}

-- letters of Greek and Cyrillic, Hebrew, Arabic
abbrev pub is_letter : ℕ → Bool
is_letter c = (nat_le 0x370 c && nat_le c 0x482) || ((nat_le 0x5D0 c && nat_le c 0x5EA) || (nat_le 0x61B c && nat_le c 0x64A))

-- Arabic digits, general punctuation with the bidi controls
abbrev pub is_sign : ℕ → Bool
is_sign c = (nat_le 0x660 c && nat_le c 0x66F) || (nat_le 0x200E c && nat_le c 0x206F)

-- ideographic punctuation and kana without their marks, Han, Hangul syllables, fullwidth forms
abbrev pub is_wide : ℕ → Bool
is_wide c =
    ((nat_le 0x3000 c && nat_le c 0x3029) || (nat_le 0x3030 c && nat_le c 0x3098))
    || ((nat_le 0x309B c && nat_le c 0x30FF) || ((nat_le 0x4E00 c && nat_le c 0x9FFF) || ((nat_le 0xAC00 c && nat_le c 0xD7A3) || (nat_le 0xFF01 c && nat_le c 0xFF9D))))

-- before U+0300 all but the carriage return
abbrev pub is_plain : ℕ → Bool
is_plain c = if nat_lt c 0x300 then not (c == 0x0D) else (if nat_lt c 0x3000 then is_letter c || is_sign c else is_wide c)

abbrev pub is_never : Combine → Bool
is_never Never = true
is_never other = false

-- a style by which no units are combined
abbrev pub combines_none : Style → Bool
combines_none style = not (is_vertical style.mode) || is_never style.combine

-- whether a character that is a cluster by itself belongs to a run that may be combined
abbrev pub character_joins : Style → ℕ → Bool
character_joins style c = joins style (record { first = 0; end = 1; head = c })

-- the unit of a character that is a cluster by itself and isn't combined, at this place of its text; none of a bidi control
abbrev pub character_unit : Style → Table → (place c : ℕ) → Option Unit
character_unit style table place c = cluster_unit style table (record { first = place; end = place + 1; head = c })

abbrev pub with_first : Option Unit → List Unit → List Unit
with_first None units = units
with_first (Some unit) units = unit ∷ units

-- those of characters that follow one another, the first at this place
abbrev pub character_units : Style → Table → (place : ℕ) → List ℕ → List Unit
character_units style table place [] = []
character_units style table place (c ∷ text) = with_first (character_unit style table place c) (character_units style table (place + 1) text)
