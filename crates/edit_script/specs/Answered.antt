-- What the answers of `read_script` mean.
use Rattle.std.specs.Prelude.{◌≡◌, ℕ, ◌+◌, ◌-◌, ◌^◌, min, List, Result, Ok, Err, ⊤}
use Rattle.edit_script.specs.declared.error.Refusal.{Refusal}
use Rattle.edit_script.specs.declared.error.ScriptError.{ScriptError}
use Rattle.edit_script.specs.declared.error.ScriptError.TheVariants as errors
use Rattle.edit_script.specs.Grammar.{IsScript}
use Rattle.edit_script.specs.Script.{StepAt}

-- a place in the input, of which the script begins at `start`; it is held at the last number of usize
abbrev pub place_from : (start place : ℕ) → ℕ
place_from start place = min (start + place) (2 ^ 64 - 1)

-- a refusal of the reading, with its place in the input
abbrev pub IsRefused : (start : ℕ) → ScriptError → Result (List StepAt) (Refusal × ℕ) → Type 0
IsRefused start (errors.Refused kind place) read = (at : ℕ) × (read ≡ Err (kind, at)) × (place ≡ place_from start at)
IsRefused start errors.Memory read = ⊤

-- What a call answered, seen by `view`, is what the reading gives, unless memory ran out.
abbrev pub Told : {X : Type 0} → (start : ℕ) → (X → List StepAt) → Result X ScriptError → Result (List StepAt) (Refusal × ℕ) → Type 0
Told start view (Ok x) read = read ≡ Ok (view x)
Told start view (Err error) read = IsRefused start error read

-- the text is a script that says this, and nothing else
pub record IsTheScript (text : List ℕ) (said : List StepAt) : Type 0 where
  pub is : IsScript text said
  pub only : (other : List StepAt) → IsScript text other → other ≡ said

-- A refusal with its place says that the text is no script; want of memory says nothing.
abbrev pub RefusesScript : (text : List ℕ) → ScriptError → Type 0
RefusesScript text (errors.Refused kind place) = (said : List StepAt) → IsScript text said → ⊥
RefusesScript text errors.Memory = ⊤
