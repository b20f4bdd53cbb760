-- How the code reads the entries of `font-family`.
use Rattle.std.specs.Prelude.{ℕ, Bool, true, false, ◌==◌, if◌then◌else◌, List, [], ◌∷◌, Option, Some, None, option_map}
use Rattle.css_tokens.specs.Tokens as tokens
use Rattle.css_tokens.specs.Tokens.{Lexeme}
use Rattle.css_values.specs.Longhand.{entries, entry, face_number, first_face, number_or}

abbrev pub first_of : (face other : Option ℕ) → Option ℕ
first_of (Some number) other = Some number
first_of None other = other

abbrev pub is_comma : Lexeme → Bool
is_comma (tokens.sign byte) = byte == 44
is_comma other = false

-- the face that was found behind a token, where it may stand there: an entry, or a comma behind one
abbrev pub found_behind : (entry_next : Bool) → (face : Option ℕ) → Lexeme → Option (Option ℕ)
found_behind true face lexeme = option_map (λ text. first_of face (face_number text)) (entry lexeme)
found_behind false face lexeme = if is_comma lexeme then Some face else None

-- the face that is meant where one was found before the entries, or none
abbrev pub meant_behind : (face : Option ℕ) → List Lexeme → Option ℕ
meant_behind face lexemes = option_map (λ texts. number_or face (first_face texts)) (entries lexemes)

-- the same where an entry was read
abbrev pub meant_before_comma : (face : Option ℕ) → List Lexeme → Option ℕ
meant_before_comma face [] = Some (number_or face 0)
meant_before_comma face (lexeme ∷ others) = if is_comma lexeme then meant_behind face others else None

abbrev pub meant_from : (entry_next : Bool) → (face : Option ℕ) → List Lexeme → Option ℕ
meant_from true face lexemes = meant_behind face lexemes
meant_from false face lexemes = meant_before_comma face lexemes
