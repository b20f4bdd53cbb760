-- The claim that is found is the greatest, and the greatest is found.
use Rattle.std.proofs.Common.{◌≡◌, ◌∙◌, List, [], ◌∷◌, refl, sym, ap, subst, Some, None}
use Rattle.basic_laws.proofs.Lists.{contains_none}
use Rattle.cascade.specs.declared.claim.Claim.{Claim}
use Rattle.cascade.specs.Winners.{greatest, IsGreatest, KeysDiffer}
use Rattle.cascade.proofs.Best.{found, of_some, of_none}
use Rattle.cascade.proofs.Keys.{told_by_keys}
use Rattle.cascade.proofs.SameClaims.{same_best}

pub found_is_greatest : (list : List Claim) (best : Claim) → greatest list ≡ Some best → IsGreatest list best
found_is_greatest [] best is = let none = of_none in absurd cc
found_is_greatest (first ∷ others) best is =
    let here = found first others in
    let one : Some here.0 ≡ Some best = sym here.1 ∙ sym (of_some first others) ∙ is in
    let same : here.0 ≡ best = cc in
    subst (λ (claim : Claim). IsGreatest (first ∷ others) claim) same here.2

pub none_is_found : (list : List Claim) → greatest list ≡ None → list ≡ []
none_is_found [] is = refl
none_is_found (first ∷ others) is =
    let here = found first others in
    let one : Some here.0 ≡ None = sym here.1 ∙ sym (of_some first others) ∙ is in
    absurd cc

pub greatest_is_found : (list : List Claim) (best : Claim) → KeysDiffer list → IsGreatest list best → greatest list ≡ Some best
greatest_is_found [] best differ is = absurd (contains_none best is.among)
greatest_is_found (first ∷ others) best differ is =
    let here = found first others in
    of_some first others ∙ here.1
    ∙ ap Some (same_best (first ∷ others) (first ∷ others) here.0 best (λ claim. (λ at. at, λ at. at)) (told_by_keys (first ∷ others) differ) here.2 is)
