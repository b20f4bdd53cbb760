-- What is seen of units of text: the characters of each, without where they lie in memory.
use Rattle.std.specs.Prelude.{ℕ, List, [], ◌∷◌, map, Option, Some, None}
use Rattle.fragment_types.specs.declared.glyphs.Kept.{Kept}
use Rattle.fragment_types.specs.declared.glyphs.Kept.TheVariants as kept
use Rattle.std.specs.declared.vec.Vec.{Vec}

abbrev pub lists_of : {A : Type 0} → List (Vec ℕ A) → List (List ℕ)
lists_of = map (λ characters. characters.items)

abbrev pub lists_in : Kept → List (List ℕ)
lists_in kept.None = []
lists_in (kept.One c) = (c ∷ []) ∷ []
lists_in (kept.Many units) = lists_of units.value.items

-- the character of one unit that has no other
abbrev pub only_character : List (List ℕ) → Option ℕ
only_character [] = None
only_character ([] ∷ glyphs) = None
only_character ((c ∷ []) ∷ []) = Some c
only_character ((c ∷ []) ∷ (other ∷ glyphs)) = None
only_character ((c ∷ (d ∷ characters)) ∷ glyphs) = None
