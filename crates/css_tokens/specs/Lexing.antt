-- The readers of tokens, and of what may stand between them. CSS Syntax 3, 4.
use Rattle.std.specs.Prelude.{ℕ, Bool, true, false, ◌&&◌, ◌||◌, not, ◌==◌, List, [], ◌∷◌, codes, ⊤}
use Rattle.reading.specs.Readers.{Reader, give, follow, mapped, choice, strip, starts, one_of, next_is, run_of, can_read, after, up_to, repeat, joined}
use Rattle.reading.specs.White.{is_white, white}
use Rattle.css_tokens.specs.Characters.{is_name_start, is_name_byte, is_quote, is_line_break, is_reserved}
use Rattle.css_tokens.specs.Numbers.{number_ahead, number}
use Rattle.css_tokens.specs.Tokens as tokens
use Rattle.css_tokens.specs.Tokens.{Lexeme}

-- ---- gaps

-- the end of a comment, and all before it
abbrev pub comment_end : Reader ⊤
comment_end = mapped (λ inside. tt) (up_to (strip (codes "*/")))

unfoldable pub comment : Reader ⊤
comment = after (codes "/*") comment_end

-- white space or a comment comes
abbrev pub in_gap : List ℕ → Bool
in_gap bytes = next_is is_white bytes || starts (codes "/*") bytes

-- one of them; whether there was white space, then or before
abbrev pub gap_piece : Bool → Reader Bool
gap_piece was_white = choice (next_is is_white) (mapped (λ u. true) white) (mapped (λ u. was_white) comment)

-- white space and comments; whether there is white space among them
unfoldable pub gap : Reader Bool
gap = repeat (λ was_white bytes. in_gap bytes) gap_piece false

-- ---- names and strings

-- a name can be read; where a number can be read, no name is
unfoldable pub name_ahead : List ℕ → Bool
name_ahead bytes = next_is is_name_start bytes && not (number_ahead bytes)

-- a name, where one can be read
unfoldable pub name : Reader (List ℕ)
name = run_of is_name_byte

-- a word directly behind a `#` comes
unfoldable pub hash_ahead : List ℕ → Bool
hash_ahead bytes = can_read (follow (strip (codes "#")) (λ u. one_of is_name_byte)) bytes

unfoldable pub hash : Reader (List ℕ)
hash = follow (strip (codes "#")) (λ u. name)

-- the quote doesn't come
abbrev pub in_string : (quote : ℕ) → List ℕ → Bool
in_string quote bytes = not (next_is (λ byte. byte == quote) bytes)

-- a byte of a string; a backslash takes away the meaning of the next one, also of a line break or a quote
unfoldable pub string_piece : Reader (List ℕ)
string_piece = choice (starts (codes "\\"))
    (follow (strip (codes "\\")) (λ u. mapped (λ byte. 92 ∷ byte ∷ []) (one_of (λ byte. true))))
    (mapped (λ byte. byte ∷ []) (one_of (λ byte. not (is_line_break byte))))

-- a string, as it is written between its quotes
unfoldable pub string : Reader (List ℕ)
string = follow (one_of is_quote) (λ quote. follow (joined (in_string quote) string_piece) (λ inside. mapped (λ byte. inside) (one_of (λ byte. byte == quote))))

-- ---- tokens

-- a number, a percentage or a dimension, where a number can be read
unfoldable pub numeric : Reader Lexeme
numeric = follow number (λ n.
    choice (starts (codes "%")) (mapped (λ u. tokens.percentage n) (strip (codes "%")))
    (choice name_ahead (mapped (λ unit. tokens.dimension n unit) name) (give (tokens.number n))))

-- a name, or a function with its `(`
unfoldable pub named : Reader Lexeme
named = follow name (λ n. choice (starts (codes "(")) (mapped (λ u. tokens.function n) (strip (codes "("))) (give (tokens.name n)))

-- a sign that is a token
unfoldable pub sign_token : Reader Lexeme
sign_token = mapped (λ byte. tokens.sign byte) (one_of (λ byte. not (is_reserved byte)))

-- the `(` or `[` of a bracket, or a sign
abbrev pub opening_or_sign : Reader Lexeme
opening_or_sign =
    choice (starts (codes "(")) (mapped (λ u. tokens.round) (strip (codes "(")))
    (choice (starts (codes "[")) (mapped (λ u. tokens.square) (strip (codes "[")))
    sign_token)

-- a token, or the `(` or `[` of a bracket
unfoldable pub token : Reader Lexeme
token = choice number_ahead numeric
    (choice name_ahead named
    (choice (next_is is_quote) (mapped (λ inside. tokens.quoted inside) string)
    (choice hash_ahead (mapped (λ word. tokens.hash word) hash)
    opening_or_sign)))
