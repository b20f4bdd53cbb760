-- Refusals with their places, and how the code tells them.
use Rattle.std.specs.Prelude.{◌≡◌, ℕ, ◌-◌, List, length, Result, Ok, Err, ⊤}
use Rattle.reading.specs.Readers.{Read, ReadOr}
use Rattle.html_tokens.specs.declared.error.Refusal.TheVariants.{Syntax}
use Rattle.html_read.specs.declared.error.HtmlError.{HtmlError}
use Rattle.html_read.specs.declared.error.HtmlError.TheVariants as errors
use Rattle.html_tokens.specs.Error.{Stop}
use Rattle.reading.specs.declared.stop.Stop.TheVariants as stops
use Rattle.html_tokens.specs.Error.{Fault}

-- a place in an input of this size is the count of bytes before what is left
abbrev pub place_in : (size : ℕ) → (left : List ℕ) → ℕ
place_in size left = size - length left

abbrev pub Tells : (size : ℕ) → Stop → HtmlError → Type 0
Tells size (stops.Refused kind left) error = error ≡ errors.Refused kind (place_in size left.now)
Tells size stops.Memory error = error ≡ errors.Memory

-- a refusal of the reader, with its place
abbrev pub IsRefused : {A : Type 0} → (size : ℕ) → HtmlError → ReadOr Fault A → Type 0
IsRefused size (errors.Refused kind place) read = (left : List ℕ) × (read ≡ Err (kind, left)) × (place ≡ place_in size left)
IsRefused size errors.Memory read = ⊤

-- What a call answered of an input of this size is what the reader gives, unless memory ran out.
abbrev pub Told : {X A : Type 0} → (size : ℕ) → (X → A) → Result X HtmlError → ReadOr Fault A → Type 0
Told size view (Ok x) read = (rest : List ℕ) × (read ≡ Ok (view x, rest))
Told size view (Err error) read = IsRefused size error read

-- the place behind what was read, or of a Syntax
abbrev pub TellsTail : (size : ℕ) → Result ℕ HtmlError → Read ⊤ → Type 0
TellsTail size (Ok place) read = (rest : List ℕ) × (read ≡ Ok (tt, rest)) × (place ≡ place_in size rest)
TellsTail size (Err (errors.Refused kind place)) read = (kind ≡ Syntax) × (left : List ℕ) × (read ≡ Err left) × (place ≡ place_in size left)
TellsTail size (Err errors.Memory) read = ⊥
