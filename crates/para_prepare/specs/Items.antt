-- The items of a paragraph: units, combined runs, inline-blocks and line breaks.
use Rattle.std.specs.Prelude.{ℕ, ◌+◌, ◌==◌, Bool, false, List, [], ◌∷◌, Option, Some, None}
use Rattle.cluster_units.specs.declared.unit.Unit.{Unit}
use Rattle.para_prepare.specs.declared.item.PreparedItem.{PreparedItem}
use Rattle.para_prepare.specs.declared.item.PreparedContent as content
use Rattle.para_prepare.specs.declared.item.PreparedContent.TheVariants as contents
use Rattle.para_prepare.specs.declared.letter.Letter.{Letter}
use Rattle.para_prepare.specs.declared.standing.Standing.{Standing}
use Rattle.para_prepare.specs.Glyph.{glyph, last_letter}
use Rattle.para_prepare.specs.Parts.{Raw, of_unit, of_combined, of_atom, of_break}

-- a unit's places in its node's whole text: from its first kept character to behind its last
abbrev pub first_place : List Letter → ℕ
first_place [] = 0
first_place (l ∷ letters) = l.place

abbrev pub behind : Option Letter → ℕ
behind None = 0
behind (Some l) = l.place + 1

abbrev pub place_behind : List Letter → ℕ
place_behind letters = behind (last_letter letters)

-- the single character U+0020
abbrev pub is_space : List Letter → Bool
is_space [] = false
is_space (l ∷ []) = l.char == 0x20
is_space (l ∷ (_ ∷ _)) = false

abbrev pub unit_content : (level node : ℕ) → Unit → List Letter → content.PreparedContent
unit_content level node unit letters =
    contents.Unit unit.kind (is_space letters) node (first_place letters) (place_behind letters) unit.advance (glyph level letters ∷ [])

abbrev pub combined_content : (node : ℕ) → Unit → List Letter → (inside : List (List ℕ)) → content.PreparedContent
combined_content node unit letters inside =
    contents.Combined node (first_place letters) (place_behind letters) unit.advance unit.natural inside

-- an item at its level
abbrev pub content_of : (level : ℕ) → Raw → content.PreparedContent
content_of level (of_unit source node upright unit letters) = unit_content level node unit letters
content_of level (of_combined source node unit letters inside) = combined_content node unit letters inside
content_of level (of_atom source name) = contents.Atom name
content_of level (of_break source node) = contents.Break node

abbrev pub source_of : Raw → ℕ
source_of (of_unit source node upright unit letters) = source
source_of (of_combined source node unit letters inside) = source
source_of (of_atom source name) = source
source_of (of_break source node) = source

abbrev pub item_of : Raw → Standing → PreparedItem
item_of raw standing =
    record { source = source_of raw; apart = standing.apart; what = content_of standing.level raw }

abbrev pub items_by : List Raw → List Standing → List PreparedItem
items_by [] standings = []
items_by (raw ∷ raws) [] = []
items_by (raw ∷ raws) (standing ∷ standings) = item_of raw standing ∷ items_by raws standings
