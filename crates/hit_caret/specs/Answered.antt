-- What the answers of `read_probe` mean.
use Rattle.std.specs.Prelude.{◌≡◌, ℕ, ◌+◌, ◌-◌, ◌^◌, min, List, Result, Ok, Err, ⊤}
use Rattle.hit_caret.specs.declared.error.ProbeError.{ProbeError}
use Rattle.hit_caret.specs.declared.error.ProbeError.TheVariants as errors
use Rattle.hit_caret.specs.declared.error.Refusal.{Refusal}
use Rattle.hit_caret.specs.declared.probes.Probe.{Probe}
use Rattle.hit_caret.specs.Grammar.{IsProbe}

-- a place in the input, of which the probe begins at `start`; it is held at the last number of usize
abbrev pub place_from : (start place : ℕ) → ℕ
place_from start place = min (start + place) (2 ^ 64 - 1)

-- a refusal of the reading, with its place in the input
abbrev pub IsRefused : (start : ℕ) → ProbeError → Result (List Probe) (Refusal × ℕ) → Type 0
IsRefused start (errors.Refused kind place) read = (at : ℕ) × (read ≡ Err (kind, at)) × (place ≡ place_from start at)
IsRefused start errors.Memory read = ⊤

-- What a call answered, seen by `view`, is what the reading gives, unless memory ran out.
abbrev pub Told : {X : Type 0} → (start : ℕ) → (X → List Probe) → Result X ProbeError → Result (List Probe) (Refusal × ℕ) → Type 0
Told start view (Ok x) read = read ≡ Ok (view x)
Told start view (Err error) read = IsRefused start error read

-- the text is a probe that asks this, and nothing else
pub record IsTheProbe (text : List ℕ) (asked : List Probe) : Type 0 where
  pub is : IsProbe text asked
  pub only : (other : List Probe) → IsProbe text other → other ≡ asked

-- A refusal with its place says that the text is no probe; want of memory says nothing.
abbrev pub RefusesProbe : (text : List ℕ) → ProbeError → Type 0
RefusesProbe text (errors.Refused kind place) = (asked : List Probe) → IsProbe text asked → ⊥
RefusesProbe text errors.Memory = ⊤
