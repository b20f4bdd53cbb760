-- Where a text is cut: before a byte of ASCII.
use Rattle.std.specs.Prelude.{◌≡◌, ℕ, ◌<◌, false, List, [], ◌∷◌, ◌++◌, length, Result, Ok, Err, ⊤}
use denote.Bor.{Bor}
use Rattle.reading.specs.Readers.{Read, joined}
use Rattle.css_tokens.specs.Lexing.{in_string, string_piece}

-- the bytes begin with ASCII, or there are none
abbrev pub BeginsInAscii : List ℕ → Type 0
BeginsInAscii [] = ⊤
BeginsInAscii (byte ∷ bytes) = byte < 128

-- a piece of a string was read: what stands before the rest
abbrev pub ReadsPiece : (text : List ℕ) → Result (Bor (List ℕ)) (Bor (List ℕ)) → Type 0
ReadsPiece text (Ok rest) = (piece : List ℕ) × (string_piece text ≡ Ok (piece, rest.now)) × (text ≡ piece ++ rest.now) × (0 < length piece)
ReadsPiece text (Err left) = string_piece text ≡ Err left.now

-- a string was read up to its quote
abbrev pub ReadsString : (quote : ℕ) → (text : List ℕ) → Result (Bor (List ℕ)) (Bor (List ℕ)) → Type 0
ReadsString quote text (Ok rest) = (inside : List ℕ) × (joined (in_string quote) string_piece text ≡ Ok (inside, rest.now)) × (text ≡ inside ++ rest.now) × (in_string quote rest.now ≡ false)
ReadsString quote text (Err left) = joined (in_string quote) string_piece text ≡ Err left.now

-- digits were read, and counted so
abbrev pub Counts : (List ℕ → ℕ) → Read (List ℕ) → (count : ℕ) → (rest : List ℕ) → Type 0
Counts view read count rest = (digits : List ℕ) × (read ≡ Ok (digits, rest)) × (count ≡ view digits)
