-- Names, compared in small letters, and what a table has for one.
use Rattle.std.specs.Prelude.{ℕ, List, map, find, bytes_eq, Option, option_map}
use Rattle.std.specs.Char.{to_ascii_lowercase}
use denote.Bor.{Bor}

-- names are compared in small letters
abbrev pub lowered : List ℕ → List ℕ
lowered = map to_ascii_lowercase

-- a table of the code, by its words
abbrev pub words_of : {T : Type 0} → List (Bor (List ℕ) × T) → List (List ℕ × T)
words_of table = map (λ row. (row.0.now, row.1)) table

-- what a table has for a name in small letters: the first row whose word it is, in either case
abbrev pub named : {T : Type 0} → List (List ℕ × T) → List ℕ → Option T
named table name = option_map (λ row. row.1) (find (λ row. bytes_eq (lowered row.0) name) table)
