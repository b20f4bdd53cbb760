-- The component values of a value: a token by itself, or a block, which a token opens. CSS Syntax 3, 5.
use Rattle.std.specs.Prelude.{ℕ, Bool, false, ◌||◌, if◌then◌else◌, List, [], ◌∷◌, Option, Some, None}
use Rattle.css_tokens.specs.Tokens.{Lexeme}
use Rattle.css_values.specs.Value.{is_at, is_var}

pub data Components : Type 0 where
  none : Components
  -- a token that opens nothing, and the bytes from it on
  preserved : (lexeme : Lexeme) (left : List ℕ) (next : Components) → Components
  -- what opens a block, and what stands in it
  block : (opening : Lexeme) (inside next : Components) → Components

-- the tokens outside blocks, and what opens each block
abbrev pub lexemes_in : Components → List Lexeme
lexemes_in none = []
lexemes_in (preserved lexeme left next) = lexeme ∷ lexemes_in next
lexemes_in (block opening inside next) = opening ∷ lexemes_in next

-- a `var(` stands in them, also within blocks
abbrev pub have_var : Components → Bool
have_var none = false
have_var (preserved lexeme left next) = have_var next
have_var (block opening inside next) = is_var opening || have_var inside || have_var next

abbrev pub or_else : Option (List ℕ) → Option (List ℕ) → Option (List ℕ)
or_else (Some first) other = Some first
or_else None other = other

-- the bytes from the first `@` on, also within blocks
abbrev pub first_at : Components → Option (List ℕ)
first_at none = None
first_at (preserved lexeme left next) = if is_at lexeme then Some left else first_at next
first_at (block opening inside next) = or_else (first_at inside) (first_at next)
