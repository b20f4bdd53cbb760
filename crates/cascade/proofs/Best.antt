-- What the greatest claim of a list is.
use Rattle.std.proofs.Common.{◌≡◌, inl, inr, Bool, true, false, cond, List, [], ◌∷◌, refl, ◌∙◌, subst, Option, Some, None}
use Rattle.std.specs.List.{Contains}
use Rattle.basic_laws.proofs.Lists.{contains_cases, contains_first, contains_none, contains_other}
use Rattle.cascade.specs.declared.claim.Claim.{Claim}
use Rattle.cascade.specs.Claims.{numbers_of, is_below}
use Rattle.cascade.specs.Winners.{greater, greatest, greatest_from, IsGreatest}
use Rattle.cascade.proofs.NumberOrder.{less_one_way, not_less_than_itself, not_less_through}

-- the greatest of a first claim and others
abbrev pub Found : (first : Claim) (others : List Claim) → Type 0
Found first others = (best : Claim) × (greatest_from (Some first) others ≡ Some best) × IsGreatest (first ∷ others) best

pub none_behind : (best : Option Claim) → greatest_from best [] ≡ best
unfolding greatest_from
none_behind best = refl

one_behind : (best : Option Claim) (claim : Claim) (others : List Claim) → greatest_from best (claim ∷ others) ≡ greatest_from (greater best claim) others
unfolding greatest_from
one_behind best claim others = refl

alone : (claim : Claim) → IsGreatest (claim ∷ []) claim
alone claim = record {
  among = contains_first claim [];
  least = λ other at. elim (contains_cases claim other [] at) [
    | inl is ↦ subst (λ (c : Claim). is_below claim.key c.key ≡ false) is (not_less_than_itself (numbers_of claim.key))
    | inr there ↦ absurd (contains_none other there)
  ];
}

-- the first is below the second
below_the_next : (first next best : Claim) (others : List Claim) → is_below first.key next.key ≡ true → IsGreatest (next ∷ others) best → IsGreatest (first ∷ next ∷ others) best
below_the_next first next best others below great = record {
  among = contains_other first best (next ∷ others) great.among;
  least = λ other at. elim (contains_cases first other (next ∷ others) at) [
    | inl is ↦ subst (λ (c : Claim). is_below best.key c.key ≡ false) is
        (not_less_through (numbers_of best.key) (numbers_of next.key) (numbers_of first.key) (great.least next (contains_first next others)) (less_one_way (numbers_of first.key) (numbers_of next.key) below))
    | inr there ↦ great.least other there
  ];
}

not_below_the_next : (first next best : Claim) (others : List Claim) → is_below first.key next.key ≡ false → IsGreatest (first ∷ others) best → IsGreatest (first ∷ next ∷ others) best
not_below_the_next first next best others below great = record {
  among = elim (contains_cases first best others great.among) [
    | inl is ↦ subst (λ (c : Claim). Contains (first ∷ next ∷ others) c) is (contains_first first (next ∷ others))
    | inr there ↦ contains_other first best (next ∷ others) (contains_other next best others there)
  ];
  least = λ other at. elim (contains_cases first other (next ∷ others) at) [
    | inl is ↦ great.least other (subst (λ (c : Claim). Contains (first ∷ others) c) is (contains_first first others))
    | inr there ↦ elim (contains_cases next other others there) [
      | inl is ↦ subst (λ (c : Claim). is_below best.key c.key ≡ false) is
          (not_less_through (numbers_of best.key) (numbers_of first.key) (numbers_of next.key) (great.least first (contains_first first others)) below)
      | inr further ↦ great.least other (contains_other first other others further)
    ]
  ];
}

goes_on : (first next : Claim) (others : List Claim) (below : Bool) → is_below first.key next.key ≡ below → Found first others → Found next others
    → (best : Claim) × (greatest_from (cond below (Some next) (Some first)) others ≡ Some best) × IsGreatest (first ∷ next ∷ others) best
goes_on first next others true is here there = (there.0, there.1, below_the_next first next there.0 others is there.2)
goes_on first next others false is here there = (here.0, here.1, not_below_the_next first next here.0 others is here.2)

pub found : (first : Claim) (others : List Claim) → Found first others
found first [] = (first, none_behind (Some first), alone first)
found first (next ∷ others) =
    let after : (best : Claim) × (greatest_from (greater (Some first) next) others ≡ Some best) × IsGreatest (first ∷ next ∷ others) best =
    goes_on first next others (is_below first.key next.key) refl (found first others) (found next others) in
    (after.0, one_behind (Some first) next others ∙ after.1, after.2)

pub of_some : (first : Claim) (others : List Claim) → greatest (first ∷ others) ≡ greatest_from (Some first) others
of_some first others = one_behind None first others

pub of_none : greatest [] ≡ None
of_none = none_behind None
