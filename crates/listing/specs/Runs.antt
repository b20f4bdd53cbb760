-- How a run of text is told: where its units begin and end in the node's text, how they stand, and their characters from
-- line-left.
use Rattle.std.specs.Prelude.{ℕ, List, [], ◌∷◌, ◌++◌, map, min, max, Option, Some, None, ℤ, pos, codes}
use Rattle.std.specs.Fmt.{signed_decimal}
use Rattle.std.specs.List.{reduce}
use Rattle.std.specs.Option.{unwrap_or}
use Rattle.std.specs.Int.{int_min}
use Rattle.wm_modes.specs.declared.mode.WritingMode.{WritingMode}
use Rattle.wm_modes.specs.declared.mode.WritingMode.TheVariants.{HorizontalTb, VerticalRl, VerticalLr, SidewaysRl, SidewaysLr}
use Rattle.fragment_types.specs.RunUnit.{RunUnit}
use Rattle.fragment_types.specs.declared.unit_kind.UnitKind.{UnitKind}
use Rattle.fragment_types.specs.declared.unit_kind.UnitKind.TheVariants.{Along, Turned, Upright, Combined}
use Rattle.listing.specs.Words.{code_point}
use Rattle.listing.specs.declared.text_standing.TextStanding.{TextStanding}
use Rattle.listing.specs.declared.text_standing.TextStanding.TheVariants.{InMode, OnFlow}

-- ---- the bounds

-- the least place at which a unit begins
unfoldable pub first_of : List RunUnit → ℕ
first_of units = unwrap_or (reduce min (map (λ unit. unit.first) units)) 0

-- the greatest place at which one ends
unfoldable pub end_of : List RunUnit → ℕ
end_of units = unwrap_or (reduce max (map (λ unit. unit.end) units)) 0

-- ---- how the units stand

-- along their line: not turned, to the right, to the left
unfoldable pub turn_word : WritingMode → List ℕ
turn_word HorizontalTb = codes "h"
turn_word VerticalRl = codes "s"
turn_word VerticalLr = codes "s"
turn_word SidewaysRl = codes "s"
turn_word SidewaysLr = codes "l"

-- the width of a combined run: its natural width, but at most one font size, which is what its one entry takes on the line
unfoldable pub combined_width : (natural : Option ℤ) → List RunUnit → ℤ
combined_width natural [] = pos 0
combined_width None (unit ∷ units) = unit.extent
combined_width (Some natural) (unit ∷ units) = int_min natural unit.extent

-- in a mode: units along their line, upright, and combined by their width
unfoldable pub form_word : WritingMode → UnitKind → (width : ℤ) → List ℕ
form_word mode Along width = turn_word mode
form_word mode Turned width = turn_word mode
form_word mode Upright width = codes "u"
form_word mode Combined width = codes "c" ++ signed_decimal width

-- how units stand is told of a mode; on the flow there is a dash in its place
abbrev pub standing_word : TextStanding → UnitKind → (width : ℤ) → List ℕ
standing_word (InMode mode) form width = form_word mode form width
standing_word OnFlow form width = codes "-"

-- ---- the characters

-- the signs between words, characters of a unit, and units
abbrev pub space : ℕ
space = 32

abbrev pub plus : ℕ
plus = 43

abbrev pub comma : ℕ
comma = 44

-- each behind a sign: the first behind this one, the others behind another
abbrev pub told : {A : Type 0} (tell : (sign : ℕ) → A → List ℕ) (first others : ℕ) → List A → List ℕ
told tell first others [] = []
told tell first others (x ∷ xs) = tell first x ++ told tell others others xs

abbrev pub character : (sign c : ℕ) → List ℕ
character sign c = sign ∷ code_point c

-- the characters of a unit
abbrev pub characters : (first : ℕ) → List ℕ → List ℕ
characters first = told character first plus

-- units side by side
abbrev pub glyphs : (first : ℕ) → List (List ℕ) → List ℕ
glyphs first = told characters first comma

-- those of an entry of a run: one unit, or all inside a combined run
abbrev pub unit_glyphs : (first : ℕ) → RunUnit → List ℕ
unit_glyphs first unit = glyphs first unit.glyphs

abbrev pub units : (first : ℕ) → List RunUnit → List ℕ
units first = told unit_glyphs first comma
