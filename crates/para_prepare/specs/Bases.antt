-- The base levels of a prepared paragraph as they are kept.
use Rattle.std.specs.Prelude.{ℕ, List, Option, Some, None}
use Rattle.std.specs.declared.vec.Vec.{Vec}

-- they are the levels where no others are kept
abbrev pub bases_in : {A : Type 0} → (levels : List ℕ) → Option (Vec ℕ A) → List ℕ
bases_in levels None = levels
bases_in levels (Some bases) = bases.items
