-- Which bytes are a token, and which may stand between two tokens (docs/PROFILE/css.md). A token is as long as it can
-- be, so what may not stand behind it is said with it.
--
--   token      = number | number "%" | number name | name | name "(" | string | "#" word | "(" | "[" | sign
--   number     = ("+" | "-")? (digit+ | digit* "." digit+)
--   name       = letter (letter | digit)*
--   word       = (letter | digit)+
--   string     = `"` (character | "\" character)* `"` | "'" (character | "\" character)* "'"
--   gap        = (s | comment)*
--   comment    = "/*" characters "*/"
--   s          = one white space character
--   letter     = a letter, "_", "-" or a byte from U+0080 on
--   sign       = any other byte but a quote, ")", "\", "]", "{" and "}"
use Rattle.std.specs.Prelude.{◌≡◌, ℕ, ◌+◌, ◌<◌, Bool, true, false, ◌&&◌, not, ◌==◌, ℤ, List, [], ◌∷◌, ◌++◌, length, codes, ⊤}
use Rattle.std.specs.List.{list_any}
use Rattle.std.specs.Char.{is_ascii_digit}
use Rattle.reading.specs.Readers.{starts, strip, next_is, can_read}
use Rattle.reading.specs.Grammars.{Grammar, Given, Fixed, OneOf, AllPass, UpTo, Seq, Mapped, Either, After, Each, Joined}
use Rattle.reading.specs.Placed.{PlacedGrammar}
use Rattle.reading.specs.White.{is_white}
use Rattle.css_tokens.specs.Characters.{is_name_start, is_name_byte, is_plus_or_minus, is_quote, is_line_break, is_reserved}
use Rattle.css_tokens.specs.Lexing.{in_gap, name_ahead, hash_ahead}
use Rattle.css_tokens.specs.Numbers.{hundredths_of, signed, point, number_ahead}
use Rattle.css_tokens.specs.Tokens as tokens
use Rattle.css_tokens.specs.Tokens.{Lexeme}

-- ---- gaps

-- a comment goes up to the first end of one
abbrev pub IsComment : Grammar ⊤
IsComment = After (codes "/*") (Mapped (λ inside. tt) (UpTo (strip (codes "*/")) (Fixed (codes "*/"))))

-- white space or a comment; whether it is white space
abbrev pub IsGapPiece : Grammar Bool
IsGapPiece = Either (Mapped (λ byte. true) (OneOf is_white)) (Mapped (λ u. false) IsComment)

-- all of it that stands there; whether there is white space among it
abbrev pub IsGap : PlacedGrammar Bool
IsGap text behind white = (pieces : List Bool) × Each IsGapPiece text pieces × (white ≡ list_any (λ piece. piece) pieces) × (in_gap behind ≡ false)

-- ---- names and strings

-- where a number can be read, no name is
abbrev pub IsName : PlacedGrammar (List ℕ)
IsName text behind n = (n ≡ text) × (next_is is_name_start text ≡ true) × AllPass is_name_byte text × (next_is is_name_byte behind ≡ false) × (number_ahead (text ++ behind) ≡ false)

abbrev pub IsHash : PlacedGrammar (List ℕ)
IsHash text behind word = (text ≡ 35 ∷ word) × (0 < length word) × AllPass is_name_byte word × (next_is is_name_byte behind ≡ false)

-- a backslash takes away the meaning of the byte behind it
abbrev pub IsEscaped : Grammar (List ℕ)
IsEscaped = Seq (Fixed (codes "\\")) (λ u. Mapped (λ byte. 92 ∷ byte ∷ []) (OneOf (λ byte. true)))

abbrev pub stands_for_itself : (quote : ℕ) → ℕ → Bool
stands_for_itself quote byte = not (byte == quote) && not (byte == 92) && not (is_line_break byte)

abbrev pub IsStringPiece : (quote : ℕ) → Grammar (List ℕ)
IsStringPiece quote = Either IsEscaped (Mapped (λ byte. byte ∷ []) (OneOf (stands_for_itself quote)))

-- a string, as it is written between its quotes
abbrev pub IsString : Grammar (List ℕ)
IsString = Seq (OneOf is_quote) (λ quote. Seq (Joined (IsStringPiece quote)) (λ inside. Mapped (λ byte. inside) (OneOf (λ byte. byte == quote))))

-- ---- numbers

-- whether it is `-`
abbrev pub IsSign : Grammar Bool
IsSign = Either (Mapped (λ byte. byte == 45) (OneOf is_plus_or_minus)) (Given false)

-- the decimals of a number: those behind a point, or none where no point stands directly before a digit
abbrev pub AreDecimals : PlacedGrammar (List ℕ)
AreDecimals text behind [] = (text ≡ []) × (can_read point behind ≡ false)
AreDecimals text behind (digit ∷ digits) = (text ≡ 46 ∷ digit ∷ digits) × AllPass is_ascii_digit (digit ∷ digits)

-- a number, in hundredths
pub record IsNumber (text behind : List ℕ) (n : ℤ) : Type 0 where
  pub sign : List ℕ
  pub negative : Bool
  pub digits : List ℕ
  pub fraction : List ℕ
  pub decimals : List ℕ
  pub is_sign : IsSign sign negative
  pub are_digits : AllPass is_ascii_digit digits
  pub are_decimals : AreDecimals fraction behind decimals
  pub some : 0 < length digits + length decimals
  pub ends : next_is is_ascii_digit behind ≡ false
  pub value : n ≡ signed negative (hundredths_of digits decimals)
  pub whole : text ≡ sign ++ (digits ++ fraction)

-- ---- tokens

-- a sign is what no other token begins with
abbrev pub is_sign : ℕ → Bool
is_sign byte = not (is_reserved byte) && not (is_quote byte)

abbrev pub IsToken : PlacedGrammar Lexeme
IsToken text behind (tokens.number n) = IsNumber text behind n × (starts (codes "%") behind ≡ false) × (name_ahead behind ≡ false)
IsToken text behind (tokens.percentage n) = (front : List ℕ) × IsNumber front (codes "%" ++ behind) n × (text ≡ front ++ codes "%")
IsToken text behind (tokens.dimension n unit) = (front : List ℕ) × IsNumber front (unit ++ behind) n × IsName unit behind unit × (text ≡ front ++ unit)
IsToken text behind (tokens.name n) = IsName text behind n × (starts (codes "(") behind ≡ false)
IsToken text behind (tokens.function n) = IsName n (codes "(" ++ behind) n × (text ≡ n ++ codes "(")
IsToken text behind (tokens.quoted inside) = IsString text inside
IsToken text behind (tokens.hash word) = IsHash text behind word
IsToken text behind tokens.round = text ≡ codes "("
IsToken text behind tokens.square = text ≡ codes "["
IsToken text behind (tokens.sign byte) = OneOf is_sign text byte × (number_ahead (text ++ behind) ≡ false) × (name_ahead (text ++ behind) ≡ false) × (hash_ahead (text ++ behind) ≡ false)
