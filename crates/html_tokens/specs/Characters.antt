-- Names, references and characters: which bytes they are made of, and what the tables say of them.
use Rattle.std.specs.Prelude.{ℕ, zero, suc, ◌+◌, ◌-◌, ◌*◌, Bool, ◌||◌, ◌==◌, List, [], ◌∷◌, map, is_some}
use Rattle.std.specs.Char.{is_ascii_alphabetic, is_ascii_alphanumeric}
use Rattle.std.specs.Str.{continuation_len, lead_bits}
use Rattle.wm_chars.specs.Repertoire.{row_of}
use Rattle.html_tokens.specs.declared.entity.TheConstants.{ENTITIES}

-- a name begins with a letter, and goes on with letters, digits, `-` and `_`
abbrev pub is_letter : ℕ → Bool
is_letter = is_ascii_alphabetic

abbrev pub is_name_byte : ℕ → Bool
is_name_byte byte = is_ascii_alphanumeric byte || byte == 45 || byte == 95

-- the names of references, with the characters that they mean
unfoldable pub entities : List (List ℕ × ℕ)
entities = map (λ row. (row.0.now, row.1)) ENTITIES

-- whether the character may stand in a text
unfoldable pub in_repertoire : ℕ → Bool
in_repertoire c = is_some (row_of c)

-- the code that the first bytes stand for in UTF-8, behind `high` from the bytes before them
abbrev pub code_from : (more high : ℕ) → List ℕ → ℕ
code_from zero high bytes = high
code_from (suc more) high [] = high
code_from (suc more) high (byte ∷ bytes) = code_from more (high * 64 + (byte - 128)) bytes

abbrev pub first_code : List ℕ → ℕ
first_code [] = 0
first_code (byte ∷ bytes) = code_from (continuation_len byte) (lead_bits byte) bytes
