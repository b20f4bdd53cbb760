-- The whole content of a paragraph, with its texts cut and its combined runs in visual order.
use Rattle.std.specs.Prelude.{ℕ, ◌+◌, Bool, cond, List, [], ◌∷◌, ◌++◌, length, drop, Option}
use Rattle.std.specs.Str.{chars}
use Rattle.face_api.specs.Table.{Table}
use Rattle.style_types.specs.declared.style.Style.{Style}
use Rattle.fragment_types.specs.Item.{Entry, text, begins, ends, atom, line_break}
use Rattle.cluster_units.specs.Text.{is_combined}
use Rattle.cluster_units.specs.declared.unit.Unit.{Unit}
use Rattle.para_prepare.specs.declared.letter.Letter.{Letter}
use Rattle.para_prepare.specs.Inside.{inside}
use Rattle.para_prepare.specs.Parts.{Part, opens, closes, item, Raw, of_unit, of_combined, of_atom, of_break, parts_by, sets_upright, units_in, used_direction}
use Rattle.para_prepare.specs.White.{chosen, marks, signs_in}

-- a unit of a text node with its kept characters
abbrev pub raw_of : List (Option Table) → (source node : ℕ) → Style → Unit → List Letter → Raw
raw_of faces source node style unit letters =
    cond (is_combined unit.kind)
    (of_combined source node unit letters (inside faces style letters))
    (of_unit source node (sets_upright style) unit letters)

-- the parts of a text node's kept characters
abbrev pub text_parts : List (Option Table) → (source node : ℕ) → Style → List Letter → List Part
text_parts faces source node style letters =
    parts_by (sets_upright style) (raw_of faces source node style) letters 0 (units_in faces style letters)

abbrev pub parts_in : List (Option Table) → (source : ℕ) → Entry → (marks : List Bool) → List Part
parts_in faces source (text node bytes style) marks = text_parts faces source node style (chosen 0 (chars bytes) marks)
parts_in faces source (begins node style edges) marks = opens style.bidi (used_direction style) ∷ []
parts_in faces source (ends node edges) marks = closes ∷ []
parts_in faces source (atom name) marks = item (of_atom source name) ∷ []
parts_in faces source (line_break node) marks = item (of_break source node) ∷ []

abbrev pub parts_from : List (Option Table) → (source : ℕ) → List Entry → (marks : List Bool) → List Part
parts_from faces source [] marks = []
parts_from faces source (entry ∷ entries) marks =
    parts_in faces source entry marks ++ parts_from faces (source + 1) entries (drop (length (signs_in entry)) marks)

-- the parts of a paragraph
unfoldable pub parts : List (Option Table) → List Entry → List Part
parts faces entries = parts_from faces 0 entries (marks entries)
