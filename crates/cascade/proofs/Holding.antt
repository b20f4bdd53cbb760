-- What holds of some of a list, and of each of it, in the words of the library.
use Rattle.std.proofs.Common.{◌≡◌, Bool, ◌||◌, ◌&&◌, List, [], ◌∷◌, map, refl, ap}
use Rattle.std.specs.List.{list_any, list_all}
use Rattle.cascade.specs.Matching.{some, each}

pub some_is : {A : Type 0} {B : Type 0} (holds : B → Bool) (view : A → B) (items : List A) → list_any (λ x. holds (view x)) items ≡ some holds (map view items)
unfolding some
some_is holds view [] = refl
some_is holds view (x ∷ others) = ap (λ (b : Bool). holds (view x) || b) (some_is holds view others)

pub each_is : {A : Type 0} {B : Type 0} (holds : B → Bool) (view : A → B) (items : List A) → list_all (λ x. holds (view x)) items ≡ each holds (map view items)
unfolding each
each_is holds view [] = refl
each_is holds view (x ∷ others) = ap (λ (b : Bool). holds (view x) && b) (each_is holds view others)
