-- Text with comments in it.
use Rattle.std.specs.Prelude.{ℕ, Bool, false, not, ◌||◌, ◌==◌, List, [], ◌∷◌, codes, Ok, Err, if◌then◌else◌}
use Rattle.std.specs.Char.{encode_utf8}
use Rattle.reading.specs.Readers.{Reader, ◌>>=◌, mapped, choice, starts, joined}
use Rattle.html_tokens.specs.declared.error.Refusal.TheVariants.{Character}
use Rattle.html_tokens.specs.Characters.{in_repertoire}
use Rattle.html_tokens.specs.Error.{Judged, spelled}
use Rattle.html_tokens.specs.Lexing.{comment, reference, character}
use Rattle.std.specs.Str.{chars}
use Rattle.reading.specs.Grammars.{AllPass}

-- text goes on here: the bytes are at no tag and not at their end
abbrev pub in_text : List ℕ → Bool
in_text [] = false
in_text (byte ∷ bytes) = not (byte == 60) || starts (codes "!") bytes

-- a character of the repertoire, as its bytes
unfoldable pub checked : Reader ℕ → Judged (List ℕ)
checked f bytes = spelled f bytes >>= λ c. if in_repertoire c.0 then Ok (encode_utf8 c.0, c.1) else Err (Character, bytes)

unfoldable pub text_piece : Judged (List ℕ)
text_piece = choice (starts (codes "<")) (spelled (mapped (λ u. []) comment)) (choice (starts (codes "&")) (checked reference) (checked character))

-- the letters up to the next tag
unfoldable pub gap : Judged (List ℕ)
gap = joined in_text text_piece

-- the characters of a text are of the repertoire
abbrev pub IsOfRepertoire : List ℕ → Type 0
IsOfRepertoire letters = AllPass in_repertoire (chars letters)
