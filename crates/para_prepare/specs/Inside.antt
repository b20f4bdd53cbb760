-- The inside of a combined run: a bidi paragraph of its own, whose units stand in visual order (CSS Writing Modes 4, 9.1).
use Rattle.std.specs.Prelude.{ℕ, false, ◌++◌, List, [], ◌∷◌, map, Option, None, slice_index_or}
use Rattle.face_api.specs.Table.{Table}
use Rattle.wm_modes.specs.declared.mode.Direction.{Direction}
use Rattle.wm_modes.specs.declared.mode.Direction.TheVariants.{Ltr, Rtl}
use Rattle.style_types.specs.declared.style.Style.{Style}
use Rattle.style_types.specs.declared.style.Combine.TheVariants.{Never}
use Rattle.bidi_order.specs.Visual.{visual_order}
use Rattle.bidi_order.specs.Blanks.{reset}
use Rattle.para_prepare.specs.declared.bidi_text.Role.TheVariants.{Divides}
use Rattle.para_prepare.specs.declared.letter.Letter.{Letter}
use Rattle.para_prepare.specs.declared.bidi_text.Character.{Character}
use Rattle.para_prepare.specs.BidiText.{character, characters}
use Rattle.para_prepare.specs.Glyph.{class_of, glyph, letters_of}
use Rattle.para_prepare.specs.Parts.{Part, opens, closes, control, item, of_unit, parts_by, raws, sets_upright, units_in, used_direction}
use Rattle.para_prepare.specs.Standing.{levels_of, standings_by}

-- the characters of units and controls
abbrev pub inside_characters : List Part → List Character
inside_characters [] = []
inside_characters (opens bidi dir ∷ parts) = inside_characters parts
inside_characters (closes ∷ parts) = inside_characters parts
inside_characters (control c class ∷ parts) = character c class Divides ∷ inside_characters parts
inside_characters (item raw ∷ parts) = characters raw ++ inside_characters parts

-- what is seen of the units at these places, by the characters of each unit
abbrev pub seen_at : (levels : List ℕ) → (units : List (List Letter)) → (places : List ℕ) → List (List ℕ)
seen_at levels units = map (λ k. glyph (slice_index_or levels k 0) (slice_index_or units k []))

abbrev pub seen_in_order : (levels : List ℕ) → (aparts : List (Option ℕ)) → (units : List (List Letter)) → List (List ℕ)
seen_in_order levels aparts units = seen_at levels units (visual_order levels aparts)

-- L1 and L2 act on the units as on those of a line
abbrev pub inside_by : (base : ℕ) → List Part → List (List ℕ)
inside_by base parts =
    let standings = standings_by base false None (inside_characters parts) (levels_of base (inside_characters parts)) in
    seen_in_order (reset base (map (λ s. s.level) standings) (map class_of (raws parts))) (map (λ s. s.apart) standings) (map letters_of (raws parts))

abbrev pub level_of : Direction → ℕ
level_of Ltr = 0
level_of Rtl = 1

-- the parts of the run's characters, none of them combined
abbrev pub inside_parts : List (Option Table) → Style → List Letter → List Part
inside_parts faces style letters =
    parts_by (sets_upright style) (of_unit 0 0 (sets_upright style)) letters 0 (units_in faces (record style { combine = Never }) letters)

-- the base level is that of the element's used direction
unfoldable pub inside : List (Option Table) → Style → List Letter → List (List ℕ)
inside faces style letters = inside_by (level_of (used_direction style)) (inside_parts faces style letters)
