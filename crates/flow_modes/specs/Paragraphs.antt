-- The paragraph in each way: its intrinsic sizes and its lines. CSS 2, 9.4.2 and 10.8.
use Rattle.std.specs.Prelude.{◌≡◌, ℕ, List, map, Option, ℤ}
use Rattle.face_api.specs.Table.{Table}
use Rattle.fragment_types.specs.Item.{Entry}
use Rattle.para_prepare.specs.Preparation.{Preparation, preparation}
use Rattle.para_lines.specs.declared.paragraph.Container.{Container}
use Rattle.para_lines.specs.Filling.{paragraph_sizes}
use Rattle.para_lines.specs.Lines.{Atom, paragraph_lines}
use Rattle.page_turn.specs.Kinds.{pieces_in}
use Rattle.flow_modes.specs.Prepared.{preparation_in}
use Rattle.mode_ways.specs.Ways.{Way, entries_in, mode_of, plain, style_in}

abbrev pub container_in : Way → Container → Container
container_in way container = record container { style = style_in way container.style }

abbrev pub inline_block_in : Way → Atom → Atom
inline_block_in way own = record own { fragment = pieces_in (mode_of way) own.fragment }

-- the min-content and the max-content size of a paragraph are those of it in a horizontal flow
abbrev pub ParagraphSizesAlike : Type 0
ParagraphSizesAlike = (way : Way) (entries : List Entry) (prepared : Preparation) (mins maxs : List ℤ)
    → paragraph_sizes (entries_in way entries) (preparation_in way prepared) mins maxs ≡ paragraph_sizes (entries_in plain entries) prepared mins maxs

-- the lines of a paragraph in a way are its lines in a horizontal flow, in that way
abbrev pub ParagraphLinesAlike : Type 0
ParagraphLinesAlike = (faces : List (Option Table)) (way : Way) (container : Container) (entries : List Entry) (prepared : Preparation) (atoms : List Atom)
    → paragraph_lines faces (container_in way container) (entries_in way entries) (preparation_in way prepared) (map (inline_block_in way) atoms)
    ≡ pieces_in (mode_of way) (paragraph_lines faces (container_in plain container) (entries_in plain entries) prepared atoms)

-- so the lines of a paragraph, from its items on, are its lines in a horizontal flow, in that way
abbrev pub ParagraphsAlike : Type 0
ParagraphsAlike = (faces : List (Option Table)) (given : Option ℕ) (way : Way) (container : Container) (entries : List Entry) (atoms : List Atom)
    → paragraph_lines faces (container_in way container) (entries_in way entries) (preparation faces given (style_in way container.style) (entries_in way entries)) (map (inline_block_in way) atoms)
    ≡ pieces_in (mode_of way) (paragraph_lines faces (container_in plain container) (entries_in plain entries) (preparation faces given (style_in plain container.style) (entries_in plain entries)) atoms)
