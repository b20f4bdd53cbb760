-- A rule that looks back over the whole list is a pass that remembers what it saw.
use Rattle.std.proofs.Common.{sym, ◌≡◌, ◌∙◌, refl, ap, arith, ℕ, ◌+◌, ◌<◌, List, [], ◌∷◌, ◌++◌, append_assoc, length, get_or, take, drop, set, map}
use Rattle.std.proofs.lemmas.List.{take_more_set, drop-set-lt, drop_more, get_or_default, set-get_or}
use Rattle.bidi_resolve.specs.Passes.{each}

-- what is written by what is remembered, the element itself and what stands behind it; and what is remembered next
abbrev pub pass : {S X : Type 0} → (S → X → List X → X) → (S → X → S) → S → List X → List X
pass out next s [] = []
pass out next s (x ∷ after) = out s x after ∷ pass out next (next s x) after

pub each_is_pass : {S X : Type 0} (see : List X → S) (out : S → X → List X → X) (next : S → X → S) →
    ((x : X) (before : List X) → see (x ∷ before) ≡ next (see before) x) →
    (before xs : List X) → each (λ b x a. out (see b) x a) before xs ≡ pass out next (see before) xs
each_is_pass see out next e before [] = refl
each_is_pass see out next e before (x ∷ xs) =
    ap (λ l. out (see before) x xs ∷ l) (each_is_pass see out next e (x ∷ before) xs ∙ ap (λ s. pass out next s xs) (e x before))

-- one element further, in place
pub pass_more : {S X : Type 0} (out : S → X → List X → X) (next : S → X → S) (s : S) (xs : List X) (i : ℕ) (d : X) → i < length xs →
    take (i + 1) (set xs i (out s (get_or xs i d) (drop (i + 1) xs))) ++ pass out next (next s (get_or xs i d)) (drop (i + 1) (set xs i (out s (get_or xs i d) (drop (i + 1) xs))))
    ≡ take i xs ++ pass out next s (drop i xs)
pass_more out next s xs i d lt =
    rw (take_more_set xs i (out s (get_or xs i d) (drop (i + 1) xs)) lt, drop-set-lt (i + 1) xs i (out s (get_or xs i d) (drop (i + 1) xs)) (omega arith), drop_more xs i d lt)
    (append_assoc (take i xs) (out s (get_or xs i d) (drop (i + 1) xs) ∷ []) (pass out next (next s (get_or xs i d)) (drop (i + 1) xs)))

-- so a loop goes on
pub pass_on : {S X : Type 0} (out : S → X → List X → X) (next : S → X → S) (s s' : S) (xs xs' all : List X) (i : ℕ) (d : X) → i < length xs →
    xs' ≡ set xs i (out s (get_or xs i d) (drop (i + 1) xs)) → s' ≡ next s (get_or xs i d) → take i xs ++ pass out next s (drop i xs) ≡ all →
    take (i + 1) xs' ++ pass out next s' (drop (i + 1) xs') ≡ all
pass_on out next s s' xs xs' all i d lt written seen so_far = rw (written, seen) (pass_more out next s xs i d lt ∙ so_far)

-- the same where what is written hangs on the element alone
pub map_more : {X : Type 0} (f : X → X) (xs : List X) (i : ℕ) (d : X) → i < length xs →
    take (i + 1) (set xs i (f (get_or xs i d))) ++ map f (drop (i + 1) (set xs i (f (get_or xs i d)))) ≡ take i xs ++ map f (drop i xs)
map_more f xs i d lt =
    rw (take_more_set xs i (f (get_or xs i d)) lt, drop-set-lt (i + 1) xs i (f (get_or xs i d)) (omega arith), drop_more xs i d lt)
    (append_assoc (take i xs) (f (get_or xs i d) ∷ []) (map f (drop (i + 1) xs)))

-- an element that stays what it is
pub set_kept : {X : Type 0} (f : X → X) (xs : List X) (i : ℕ) (d e : X) → i < length xs → f (get_or xs i e) ≡ get_or xs i e → xs ≡ set xs i (f (get_or xs i d))
set_kept f xs i d e lt kept = sym (ap (λ y. set xs i y) (ap f (get_or_default xs i d e lt) ∙ kept) ∙ set-get_or xs i e)
