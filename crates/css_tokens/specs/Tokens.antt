-- The tokens of a value, without where they lie in memory. CSS Syntax 3, 4.
use Rattle.std.specs.Prelude.{ℕ, ℤ, List}
use Rattle.css_tokens.specs.declared.token.Token.{Token}
use Rattle.css_tokens.specs.declared.token.Token.TheVariants as code

pub data Lexeme : Type 0 where
  -- a name, and one directly before a `(`, as they are written
  name : (text : List ℕ) → Lexeme
  function : (text : List ℕ) → Lexeme
  number : (hundredths : ℤ) → Lexeme
  percentage : (hundredths : ℤ) → Lexeme
  dimension : (hundredths : ℤ) (unit : List ℕ) → Lexeme
  -- what stands between the quotes, as it is written
  quoted : (inside : List ℕ) → Lexeme
  -- what stands behind a `#`
  hash : (text : List ℕ) → Lexeme
  -- a `(` that stands directly behind no name, and a `[`
  round : Lexeme
  square : Lexeme
  sign : (byte : ℕ) → Lexeme

abbrev pub lexeme_of : Token → Lexeme
lexeme_of (code.Name text) = name text.now
lexeme_of (code.Function text) = function text.now
lexeme_of (code.Number hundredths) = number hundredths
lexeme_of (code.Percentage hundredths) = percentage hundredths
lexeme_of (code.Dimension hundredths unit) = dimension hundredths unit.now
lexeme_of (code.Quoted inside) = quoted inside.now
lexeme_of (code.Hash text) = hash text.now
lexeme_of code.Round = round
lexeme_of code.Square = square
lexeme_of (code.Sign byte) = sign byte
