-- What was taken of a source.
use Rattle.std.proofs.Common.{◌≡◌, ap, subst, ◌∙◌, arith, ℕ, ◌<◌, ◌≤◌, List, ◌++◌, append-nil, length, length-append, Option, Some, None}
use Rattle.std.specs.Io.KnownBytes.{Consumes, IsAtEnd}

-- what was taken of a source that tells its bytes begins them; taken to the end, they are all of them
pub taken_front : (input taken : List ℕ) (new : Option (List ℕ)) → Consumes (Some input) new taken → length taken ≤ length input
taken_front input taken None c = absurd c
taken_front input taken (Some rest) c = let long = ap (λ (l : List ℕ). length l) c ∙ length-append taken rest in omega (arith, long)

pub taken_all : (input taken : List ℕ) (new : Option (List ℕ)) → Consumes (Some input) new taken → IsAtEnd new → input ≡ taken
taken_all input taken None c e = absurd c
taken_all input taken (Some rest) c e = c ∙ ap (λ (l : List ℕ). taken ++ l) e ∙ append-nil taken

-- a source of which more than so many bytes were taken has more
pub taken_long : (input taken : List ℕ) (most : ℕ) (old new : Option (List ℕ)) → old ≡ Some input → Consumes old new taken → most < length taken → most < length input
taken_long input taken most old new told consumes more =
    let front = taken_front input taken new (subst (λ (left : Option (List ℕ)). Consumes left new taken) told consumes) in
    omega (arith, more, front)
