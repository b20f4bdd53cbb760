-- What is said of sources and sinks: how often they have failed, and what is taken and given where they tell their bytes.
use Rattle.std.specs.Prelude.{◌≡◌, ◌⊎◌, ℕ, ◌+◌, ◌-◌, ◌^◌, ◌<◌, ◌≤◌, List, ◌++◌, length, Option, Result, Ok, Err, IsErrOf, IfOk}
use Rattle.std.specs.Io.Iter.{u64_saturate}
use Rattle.std.specs.Io.KnownBytes.{Appends}
use Rattle.io_edge.specs.declared.edge.IoFail.{IoFail}
use Rattle.io_edge.specs.declared.edge.IoFail.TheVariants.{Failed, Memory}

-- ---- faults

-- the count rose, or stands at the last value of a counter of 64 bits
abbrev pub Rose : ℕ → ℕ → Type 0
Rose before now = (before < now) ⊎ (now ≡ 2 ^ 64 - 1)

-- the count doesn't fall, and `Failed` is answered only where it rose
pub record HasCause {T : Type 0} (before now : ℕ) (result : Result T IoFail) : Type 0 where
  pub later : before ≤ now
  pub failed : IsErrOf result Failed → Rose before now

-- each `Failed` raises the count by one, up to the last value of 64 bits, and nothing else changes it
abbrev pub CountsFaults : {T : Type 0} → ℕ → ℕ → Result T IoFail → Type 0
CountsFaults before now (Ok _) = now ≡ before
CountsFaults before now (Err Failed) = now ≡ u64_saturate (before + 1)
CountsFaults before now (Err Memory) = now ≡ before

-- ---- bytes

-- a front of these bytes was appended, and the rest was not
pub record AppendsUpTo (old new : Option (List ℕ)) (bytes rest : List ℕ) : Type 0 where
  pub front : List ℕ
  pub appended : Appends old new front
  pub whole : bytes ≡ front ++ rest

-- some front of these bytes was appended
abbrev pub AppendsFront : Option (List ℕ) → Option (List ℕ) → List ℕ → Type 0
AppendsFront old new bytes = (rest : List ℕ) × AppendsUpTo old new bytes rest

-- a write takes at least one byte of a piece that isn't empty
abbrev pub TakesSome : {E : Type 0} → Result ℕ E → List ℕ → Type 0
TakesSome result piece = IfOk result (λ count. 0 < length piece → 0 < count)
