-- The items of paragraphs, where a text of a node is looked for and where it gets other letters.
use Rattle.std.proofs.Common.{◌≡◌, ◌≢◌, ◌<◌, ◌||◌, ℕ, zero, suc, Bool, true, false, List, [], ◌∷◌, map, length, refl, ap, arith}
use Rattle.std.specs.Prelude.{IsTrue, MatchBool, ⊤}
use Rattle.std.specs.List.{AllWithin, HoldsAt, list_any}

-- an item is found where its entry is
pub some_are : {A B : Type 0} (test : B → Bool) (f : A → B) (xs : List A) → list_any (λ x. test (f x)) xs ≡ list_any test (map f xs)
some_are test f [] = refl
some_are test f (x ∷ xs) = ap (λ (b : Bool). test (f x) || b) (some_are test f xs)

-- where one entry is changed, the list of them is
list_differs : {A B : Type 0} (change : B → B) (f : A → B) (xs : List A) (k : ℕ) → k < length xs → HoldsAt (λ x. change (f x) ≢ f x) xs k → map change (map f xs) ≢ map f xs
list_differs change f [] k below differs same = absurd (omega (arith, below))
list_differs change f (x ∷ xs) zero below differs same = differs x (cc)
list_differs change f (x ∷ xs) (suc k) below differs same = list_differs change f xs k (omega (arith, below)) differs (cc)

-- so it is where any is found to be
pub any_differs : {A B : Type 0} (change : B → B) (f : A → B) (xs : List A) (any : Bool)
    → MatchBool any ((k : ℕ) × (k < length xs) × HoldsAt (λ x. change (f x) ≢ f x) xs k) (AllWithin (λ x. ⊤) xs 0 (length xs)) → IsTrue any → map change (map f xs) ≢ map f xs
any_differs change f xs true (k, below, differs) is = list_differs change f xs k below differs
any_differs change f xs false none is = absurd (cc)
