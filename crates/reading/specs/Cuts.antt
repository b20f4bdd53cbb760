-- A text cut in two: its front, and the rest behind it.
use Rattle.std.specs.Prelude.{◌≡◌, ℕ, List, ◌++◌, Ok}
use Rattle.reading.specs.Readers.{Read}

-- the text ends so
abbrev pub EndsWith : (text rest : List ℕ) → Type 0
EndsWith text rest = (front : List ℕ) × (text ≡ front ++ rest)

-- what is read is what stands before the rest
abbrev pub ReadsFront : Read (List ℕ) → (text rest : List ℕ) → Type 0
ReadsFront read text rest = (front : List ℕ) × (read ≡ Ok (front, rest)) × (text ≡ front ++ rest)
