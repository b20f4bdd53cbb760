-- The code's values, without where they lie in memory.
use Rattle.std.specs.Prelude.{◌≡◌, ℕ, List, ◌++◌, map, Option, option_map, Result, Ok, Err, ⊤}
use denote.Bor.{Bor}
use Rattle.std.specs.declared.vec.Vec.{Vec}
use Rattle.css_types.specs.declared.value.Value.{Value}
use Rattle.css_tokens.specs.declared.token.Token.{Token}
use Rattle.css_tokens.specs.Tokens.{Lexeme, lexeme_of}
use Rattle.css_values.specs.Error.{Stop}
use Rattle.reading.specs.declared.stop.Stop.TheVariants.{Memory}
use Rattle.css_types.specs.declared.value.Declaration.{Declaration}
use Rattle.css_types.specs.declared.refusal.Refused.{Refused}
use Rattle.css_values.specs.Tables.{Refusing}
use Rattle.css_values.specs.declared.declarations.Stated as code_stated
use Rattle.css_values.specs.Declarations.{Stated}
use Rattle.css_values.specs.Reading.{as_written}

abbrev pub lexemes_of : List Token → List Lexeme
lexemes_of = map lexeme_of

-- the words of a list
abbrev pub texts_of : List (Bor (List ℕ)) → List (List ℕ)
texts_of = map (λ word. word.now)

abbrev pub stated_of : code_stated.Stated → Stated
stated_of s = record { name = s.name.now; value = as_written s.value; left = s.left.now }

-- the rows of the table of refusals
abbrev pub refusings_of : List (Bor (List ℕ) × Refused × Bor (List (Bor (List ℕ)))) → List Refusing
refusings_of = map (λ row. record { property = row.0.now; which = row.1; names = texts_of row.2.now })

-- these stand behind the others now, unless memory ran out
abbrev pub Appends : Result ⊤ Stop → (old new more : List Declaration) → Type 0
Appends (Ok done) old new more = new ≡ old ++ more
Appends (Err stop) old new more = stop ≡ Memory

-- each token is a value, and these are all, unless memory ran out
abbrev pub TellsEach : {Y : Type 0} → Result (Option (Vec Value Y)) Stop → Option (List Value) → Type 0
TellsEach (Ok told) given = option_map (λ all. all.items) told ≡ given
TellsEach (Err stop) given = stop ≡ Memory
