-- What a style sheet or a style attribute is refused for, and how the code tells it.
use Rattle.std.specs.Prelude.{◌≡◌, ℕ, List, Result, Ok, Err, codes, ⊤}
use Rattle.reading.specs.Readers.{ReadOr, Reader}
use Rattle.reading.specs.Stop as stop
use Rattle.reading.specs.Stop.{place_before}
use Rattle.reading.specs.declared.stop.Stop as stop_type
use Rattle.reading.specs.declared.stop.Stop.TheVariants as stops
use Rattle.css_values.specs.declared.error.Refusal.{Refusal}
use Rattle.css_values.specs.declared.error.Refusal.TheVariants.{CssSyntax}
use Rattle.css_values.specs.declared.error.Refusal.TheVariants as kinds
use Rattle.css_values.specs.declared.error.CssError.{CssError}
use Rattle.css_values.specs.declared.error.CssError.TheVariants as errors

-- what is wrong, and the bytes from its place on
abbrev pub Fault : Type 0
Fault = stop.Fault Refusal

abbrev pub Judged : Type 0 → Type 0
Judged A = stop.Judged Refusal A

-- where the code stopped
abbrev pub Stop : Type 0
Stop = stop_type.Stop Refusal

-- the grammar doesn't go on with what is left
abbrev pub syntax : List ℕ → Fault
syntax left = (CssSyntax, left)

-- a reader that refuses by CssSyntax alone
abbrev pub spelled : {A : Type 0} → Reader A → Judged A
spelled f = stop.refusing_by CssSyntax f

-- a refusal of the reader, with its place in an input in which the text ends at `end`
abbrev pub IsRefused : {A : Type 0} → (end_ : ℕ) → CssError → ReadOr Fault A → Type 0
IsRefused end_ (errors.Refused kind place) read = (left : List ℕ) × (read ≡ Err (kind, left)) × (place ≡ place_before end_ left)
IsRefused end_ errors.Memory read = ⊤

-- What a call answered of a text that ends at `end` is what the reader gives, unless memory ran out.
abbrev pub Told : {X A : Type 0} → (end_ : ℕ) → (X → A) → Result X CssError → ReadOr Fault A → Type 0
Told end_ view (Ok x) read = (rest : List ℕ) × (read ≡ Ok (view x, rest))
Told end_ view (Err error) read = IsRefused end_ error read

abbrev pub Tells : (end_ : ℕ) → Stop → CssError → Type 0
Tells end_ (stops.Refused kind left) error = error ≡ errors.Refused kind (place_before end_ left.now)
Tells end_ stops.Memory error = error ≡ errors.Memory

-- the word of what is wrong, as a line of refusal has it
unfoldable pub kind_word : Refusal → List ℕ
kind_word kinds.CssSyntax = codes "CssSyntax"
kind_word kinds.Unsupported = codes "Unsupported"
kind_word kinds.TooManyRules = codes "TooManyRules"
