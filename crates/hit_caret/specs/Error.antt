-- Why a probe or a line of it is not read, as the code tells it.
use Rattle.std.specs.Prelude.{◌≡◌, ℕ, List, codes, Result, Ok, Err, ⊤}
use Rattle.hit_caret.specs.declared.error.Halt.{Halt}
use Rattle.hit_caret.specs.declared.error.Halt.TheVariants as halts
use Rattle.hit_caret.specs.declared.error.ProbeError.{ProbeError}
use Rattle.hit_caret.specs.declared.error.ProbeError.TheVariants as errors
use Rattle.hit_caret.specs.declared.error.Refusal.{Refusal}
use Rattle.hit_caret.specs.declared.error.Refusal.TheVariants as kinds

abbrev pub Halts : {Y : Type 0} → Halt → Result Y Refusal → Type 0
Halts (halts.Refused kind) said = said ≡ Err kind
Halts halts.Memory said = ⊤

-- What a function returned, seen by `view`, is this, unless memory ran out.
abbrev pub Reads : {X Y : Type 0} → (X → Y) → Result X Halt → Result Y Refusal → Type 0
Reads view (Ok x) said = said ≡ Ok (view x)
Reads view (Err halt) said = Halts halt said

-- with the place of the line's first byte
abbrev pub told_at : (place : ℕ) → Halt → ProbeError
told_at place (halts.Refused kind) = errors.Refused kind place
told_at place halts.Memory = errors.Memory

-- the word of what is wrong, as a line of refusal has it
unfoldable pub kind_word : Refusal → List ℕ
kind_word kinds.ScriptSyntax = codes "ScriptSyntax"
kind_word kinds.TooManyEdits = codes "TooManyEdits"
