-- Reading a value: its tokens with balanced brackets, up to where the declaration ends. CSS Syntax 3, 5.4.7 to 5.4.9.
use Rattle.std.specs.Prelude.{ℕ, ◌-◌, Bool, true, false, ◌&&◌, ◌||◌, not, ◌==◌, if◌then◌else◌, List, [], ◌∷◌, ◌++◌, codes, length, take, Option, Some, None, Ok, Err}
use Rattle.reading.specs.Readers.{Reader, follow, mapped, choice, one_of, next_is, repeat}
use Rattle.css_tokens.specs.Lexing.{gap, token}
use Rattle.css_tokens.specs.Tokens as tokens
use Rattle.css_tokens.specs.Tokens.{Lexeme}
use Rattle.css_values.specs.Longhand.{is_word}
use Rattle.css_values.specs.declared.within.Within.{Within}
use Rattle.css_values.specs.declared.within.Within.TheVariants as within_

abbrev pub no_items : {A : Type 0} → List A → Bool
no_items [] = true
no_items (item ∷ items) = false

-- a value that is read: its tokens outside brackets, those of brackets by their beginning alone
pub record Written : Type 0 where
  pub lexemes : List Lexeme
  pub important : Bool
  -- it has `var(`
  pub has_var : Bool
  -- the bytes from its first `@` on
  pub at_sign : Option (List ℕ)

-- what is read of a value so far
pub record Begun : Type 0 where
  -- what closes the brackets that are open, the innermost first
  pub closers : List ℕ
  pub lexemes : List Lexeme
  pub has_var : Bool
  pub at_sign : Option (List ℕ)

abbrev pub begun : Begun
begun = record { closers = []; lexemes = []; has_var = false; at_sign = None }

-- what closes the bracket that a token opens
abbrev pub closers_of : Lexeme → List ℕ
closers_of (tokens.function n) = 41 ∷ []
closers_of tokens.round = 41 ∷ []
closers_of tokens.square = 93 ∷ []
closers_of other = []

abbrev pub is_var : Lexeme → Bool
is_var (tokens.function n) = is_word (codes "var") n
is_var other = false

abbrev pub is_at : Lexeme → Bool
is_at (tokens.sign byte) = byte == 64
is_at other = false

abbrev pub or_first : Option (List ℕ) → Bool → List ℕ → Option (List ℕ)
or_first (Some first) is left = Some first
or_first None true left = Some left
or_first None false left = None

-- a token more; `left` are the bytes from it on
abbrev pub with_lexeme : (left : List ℕ) → Begun → Lexeme → Begun
with_lexeme left b lexeme = record {
  closers = closers_of lexeme ++ b.closers;
  lexemes = if no_items b.closers then b.lexemes ++ lexeme ∷ [] else b.lexemes;
  has_var = b.has_var || is_var lexeme;
  at_sign = or_first b.at_sign (is_at lexeme) left;
}

-- the innermost bracket is closed
abbrev pub behind_first : List ℕ → List ℕ
behind_first [] = []
behind_first (closer ∷ closers) = closers

abbrev pub closed : Begun → Begun
closed b = record { closers = behind_first b.closers; lexemes = b.lexemes; has_var = b.has_var; at_sign = b.at_sign }

-- what closes the innermost bracket comes
abbrev pub closes : (closers : List ℕ) → List ℕ → Bool
closes [] bytes = false
closes (closer ∷ closers) bytes = next_is (λ byte. byte == closer) bytes

-- where no bracket is open a value ends before a `;`, in a sheet also before a `}`, elsewhere also with the text
abbrev pub value_ends : Within → List ℕ → Bool
value_ends within_.Attribute bytes = no_items bytes || next_is (λ byte. byte == 59) bytes
value_ends (within_.Rule selectors before) bytes = next_is (λ byte. byte == 59 || byte == 125) bytes

abbrev pub goes_on : Within → Begun → List ℕ → Bool
goes_on within b bytes = not (no_items b.closers && value_ends within bytes)

-- a token, or the end of a bracket
abbrev pub piece : Begun → Reader Begun
piece b bytes = choice (closes b.closers) (mapped (λ byte. closed b) (one_of (λ byte. true))) (mapped (with_lexeme bytes b) token) bytes

abbrev pub turn : Begun → Reader Begun
turn b = follow (piece b) (λ more. mapped (λ white. more) gap)

-- the last two tokens are `!` and `important`
abbrev pub is_important : Lexeme → Lexeme → Bool
is_important (tokens.sign byte) (tokens.name n) = byte == 33 && is_word (codes "important") n
is_important one other = false

unfoldable pub ends_important : List Lexeme → Bool
ends_important [] = false
ends_important (one ∷ []) = false
ends_important (one ∷ other ∷ []) = is_important one other
ends_important (one ∷ other ∷ third ∷ others) = ends_important (other ∷ third ∷ others)

abbrev pub without_mark : List Lexeme → List Lexeme
without_mark lexemes = if ends_important lexemes then take (length lexemes - 2) lexemes else lexemes

abbrev pub written_of : Begun → Written
written_of b = record { lexemes = without_mark b.lexemes; important = ends_important b.lexemes; has_var = b.has_var; at_sign = b.at_sign }

-- an empty value is none
abbrev pub finished : Begun → Reader Written
finished b bytes = if no_items (without_mark b.lexemes) then Err bytes else Ok (written_of b, bytes)

unfoldable pub value : Within → Reader Written
value within = follow gap (λ white. follow (repeat (goes_on within) turn begun) finished)
