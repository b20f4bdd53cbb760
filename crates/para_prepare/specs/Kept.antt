-- The kept characters of the items of a paragraph, one list for each.
use Rattle.std.specs.Prelude.{ℕ, ◌+◌, Bool, List, [], ◌∷◌, ◌++◌, length, map, drop}
use Rattle.std.specs.Str.{chars}
use Rattle.fragment_types.specs.Item.{Entry, text, begins, ends, atom, line_break}
use Rattle.para_prepare.specs.declared.letter.Letter.{Letter}
use Rattle.para_prepare.specs.White.{chosen, marks, signs_in}

-- those of an item, whose marks come first among these
abbrev pub kept_in : Entry → (marks : List Bool) → List Letter
kept_in (text node bytes style) marks = chosen 0 (chars bytes) marks
kept_in (begins node style edges) marks = []
kept_in (ends node edges) marks = []
kept_in (atom name) marks = []
kept_in (line_break node) marks = []

abbrev pub kept_from : List Entry → (marks : List Bool) → List (List Letter)
kept_from [] marks = []
kept_from (entry ∷ entries) marks = kept_in entry marks ∷ kept_from entries (drop (length (signs_in entry)) marks)

-- the kept characters of each item
unfoldable pub kept : List Entry → List (List Letter)
kept entries = kept_from entries (marks entries)

-- the characters themselves
abbrev pub chars_of : List Letter → List ℕ
chars_of letters = map (λ l. l.char) letters

-- lists, one behind the other
abbrev pub joined : List (List Letter) → List Letter
joined [] = []
joined (letters ∷ lists) = letters ++ joined lists

-- where each list ends in the joined one, which begins at this place
abbrev pub ends_from : ℕ → List (List Letter) → List ℕ
ends_from place [] = []
ends_from place (letters ∷ lists) = (place + length letters) ∷ ends_from (place + length letters) lists
