-- Lists that grow by one element more.
use Rattle.std.proofs.Common.{◌≡◌, ◌∙◌, ap, sym, ℕ, ◌+◌, ◌<◌, List, [], ◌∷◌, ◌++◌, length, get_or, take, map, Option}
use Rattle.std.specs.List.{filter_map}
use Rattle.std.proofs.lemmas.List.{map_push, take_more}
use Rattle.std.proofs.lemmas.List.Elements.{filter_map-append}

pub filter_map_more : {X Y : Type 0} (h : X → Option Y) (xs : List X) (i : ℕ) (d : X) → i < length xs
    → filter_map h (take (i + 1) xs) ≡ filter_map h (take i xs) ++ filter_map (λ (x : Option Y). x) (h (get_or xs i d) ∷ [])
filter_map_more h xs i d lt = ap (filter_map h) (take_more xs i d lt) ∙ filter_map-append h (take i xs) (get_or xs i d ∷ [])

pub map_more : {X Y : Type 0} (f : X → Y) (xs : List X) (i : ℕ) (x : X) (made own : List Y) → i < length xs → x ≡ get_or xs i x → own ≡ made ++ f x ∷ []
    → made ≡ map f (take i xs) → own ≡ map f (take (i + 1) xs)
map_more {X = X} {Y = Y} f xs i x made own lt read is before =
    is
    ∙ ap (λ (ys : List Y). ys ++ f x ∷ []) before
    ∙ ap (λ (y : X). map f (take i xs) ++ f y ∷ []) read
    ∙ sym (ap (map f) (take_more xs i x lt) ∙ map_push f (take i xs) (get_or xs i x))
