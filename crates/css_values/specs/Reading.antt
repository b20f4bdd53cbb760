-- What is read of a value, without where it lies in memory.
use Rattle.std.specs.Prelude.{◌≡◌, ℕ, true, false, List, [], ◌∷◌, map, reverse, Option, Some, None, Result, Ok, Err, ⊤}
use denote.Bor.{Bor}
use Rattle.css_tokens.specs.Tokens.{lexeme_of}
use Rattle.css_values.specs.declared.begun.Begun as code_begun
use Rattle.css_values.specs.declared.begun.Bracket.{Bracket}
use Rattle.css_values.specs.declared.begun.Bracket.TheVariants as brackets
use Rattle.css_values.specs.declared.value.Written as code
use Rattle.css_values.specs.Error.{Stop}
use Rattle.reading.specs.declared.stop.Stop.TheVariants.{Memory}
use Rattle.css_values.specs.Value.{Begun, Written, closes}

-- what closes a bracket
abbrev pub closing_of : Bracket → ℕ
closing_of brackets.Round = 41
closing_of brackets.Square = 93

-- what closes those that are open, the innermost first
abbrev pub closings_of : List Bracket → List ℕ
closings_of open_ = map closing_of (reverse open_)

abbrev pub openings_of : Option Bracket → List ℕ
openings_of None = []
openings_of (Some bracket) = closing_of bracket ∷ []

abbrev pub text_of : Option (Bor (List ℕ)) → Option (List ℕ)
text_of None = None
text_of (Some text) = Some text.now

abbrev pub begun_of : code_begun.Begun → Begun
begun_of b = record { closers = closings_of b.brackets.items; lexemes = map lexeme_of b.tokens.items; has_var = b.has_var; at_sign = text_of b.at_sign }

abbrev pub as_written : code.Written → Written
as_written w = record { lexemes = map lexeme_of w.tokens.items; important = w.important; has_var = w.has_var; at_sign = text_of w.at_sign }

-- what stands behind the closing of the innermost bracket, where that comes
abbrev pub IsClosing : (closers : List ℕ) → (text : List ℕ) → Option (Bor (List ℕ)) → Type 0
IsClosing closers text None = closes closers text ≡ false
IsClosing closers text (Some rest) = (byte : ℕ) × (closes closers text ≡ true) × (text ≡ byte ∷ rest.now)

-- this is read now, unless memory ran out
abbrev pub Puts : Result ⊤ Stop → (due now : Begun) → Type 0
Puts (Ok done) due now = now ≡ due
Puts (Err stop) due now = stop ≡ Memory
