-- The places of a sequence in the lists of a whole paragraph.
use Rattle.std.specs.Prelude.{ℕ, List, [], ◌∷◌, map, set, get_or, slice_index}

-- what stands at these places
abbrev pub gathered : {X : Type 0} → (default : X) → List X → (places : List ℕ) → List X
gathered default xs places = map (λ p. get_or xs p default) places

-- and the same list with other elements there
abbrev pub scattered : {X : Type 0} → (places : List ℕ) → (new : List X) → List X → List X
scattered [] new xs = xs
scattered (p ∷ places) [] xs = xs
scattered (p ∷ places) (x ∷ new) xs = scattered places new (set xs p x)

-- the level of a sequence is that of its first character
abbrev pub run_level : (levels : List ℕ) → (places : List ℕ) → ℕ
run_level levels [] = 0
run_level levels (p ∷ places) = slice_index levels p
