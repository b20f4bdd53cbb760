-- A document can be opened, or is refused, and for one reason alone.
use Rattle.std.proofs.Common.{◌≡◌, ◌∙◌, ◌⊎◌, inl, inr, refl, sym, ap, arith, ℕ, zero, suc, ◌≤◌, ◌<◌, Bool, true, false, leb, List, [], ◌∷◌, length, get_or, Some}
use Rattle.std.specs.Prelude.{slice_get}
use Rattle.std.specs.List.{All}
use Rattle.std.proofs.lemmas.Bool.{leb-false, leb-true}
use Rattle.std.proofs.lemmas.List.Elements.{All-cons}
use Rattle.std.proofs.lemmas.Option.{get_or_from_slice_get, slice_get_within}
use Rattle.css_types.specs.declared.value.Declaration.{Declaration}
use Rattle.css_types.specs.Rule.{Ruling}
use Rattle.html_read.specs.Values.{Node}
use Rattle.dom_store.specs.Opening.{IsTooDeep, depths, greatest_count}
use Rattle.dom_store.specs.State.{greatest_depth}
use Rattle.box_gen.specs.declared.limit.BoxLimit.{BoxLimit}
use Rattle.session.specs.declared.error.OpenError.{OpenError}
use Rattle.session.specs.declared.error.OpenError.TheVariants.{TooManyNodes, TooDeep, Limit, Memory}
use Rattle.session.specs.Opening.{AreFew, CanOpen, HasOneAnswer, IsRefused, styled_as_read}
use Rattle.session.proofs.Limiting.{IsWithinOrPasses, least_one, not_within, one_limit, within_or_passes}

-- where no node stands too deep
none_deep : (nodes : List Node) (place : ℕ) → All (λ depth. depth ≤ greatest_depth) (depths nodes) → IsTooDeep nodes place → ⊥
none_deep nodes place low (depth, is, deep) =
    let within = slice_get_within (depths nodes) place depth is in
    let at = get_or_from_slice_get (depths nodes) place depth depth is in
    let here : get_or (depths nodes) place depth ≤ greatest_depth = low place depth within in
    absurd (omega (arith, here, deep, at))

deep_few : (nodes : List Node) (place : ℕ) → AreFew nodes → IsTooDeep nodes place → ⊥
deep_few nodes place few deep = none_deep nodes place few.low deep

-- ---- the least place of a number past a limit

abbrev IsPastAt : (limit : ℕ) → List ℕ → (place : ℕ) → Type 0
IsPastAt limit numbers place = (number : ℕ) × (slice_get numbers place ≡ Some number) × (limit < number)

abbrev IsLeastPast : (limit : ℕ) → List ℕ → (place : ℕ) → Type 0
IsLeastPast limit numbers place = IsPastAt limit numbers place × ((other : ℕ) → IsPastAt limit numbers other → place ≤ other)

past_or_low : (limit : ℕ) (numbers : List ℕ) → All (λ number. number ≤ limit) numbers ⊎ ((place : ℕ) × IsLeastPast limit numbers place)
past_or_low limit [] = inl (λ k d lt. absurd (omega (arith, lt)))
past_or_low limit (number ∷ numbers) = go (leb number limit) refl (past_or_low limit numbers) where
  later : (place : ℕ) → number ≤ limit → ((other : ℕ) → IsPastAt limit numbers other → place ≤ other) → (other : ℕ) → IsPastAt limit (number ∷ numbers) other → suc place ≤ other
  later place le low zero (n, is, past) = let same : number ≡ n = cc in absurd (omega (arith, same, le, past))
  later place le low (suc k) there = let more = low k there in omega (arith, more)

  go : (b : Bool) → leb number limit ≡ b → All (λ n. n ≤ limit) numbers ⊎ ((place : ℕ) × IsLeastPast limit numbers place)
      → All (λ n. n ≤ limit) (number ∷ numbers) ⊎ ((place : ℕ) × IsLeastPast limit (number ∷ numbers) place)
  go false is others = inr (0, ((number, refl, leb-false number limit is), λ other there. omega arith))
  go true is (inl low) = inl (All-cons (λ n. n ≤ limit) number numbers (leb-true number limit is) low)
  go true is (inr (place, (there, low))) = inr (suc place, (there, later place (leb-true number limit is) low))

module _ (nodes : List Node) (own : List (List Declaration)) (rules : List Ruling) where
  not_open : (error : OpenError) → IsRefused nodes own rules error → CanOpen nodes own rules → ⊥
  not_open (TooManyNodes number) (many, is) can = let few = can.few.few in absurd (omega (arith, many, few))
  not_open (TooDeep number) (few, deep, least) can = deep_few nodes number can.few deep
  not_open (Limit limit) (few, passes) can = not_within (styled_as_read nodes own rules) limit passes can.within
  not_open Memory is can = is

  same : (error other : OpenError) → IsRefused nodes own rules error → IsRefused nodes own rules other → other ≡ error
  same (TooManyNodes number) (TooManyNodes n) (many, is) (many', is') = ap (λ (k : ℕ). TooManyNodes k) (is' ∙ sym is)
  same (TooManyNodes number) (TooDeep n) (many, is) (few, deep, least) = absurd (omega (arith, many, few))
  same (TooManyNodes number) (Limit l) (many, is) (few, passes) = let le = few.few in absurd (omega (arith, many, le))
  same (TooDeep number) (TooManyNodes n) (few, deep, least) (many, is) = absurd (omega (arith, many, few))
  same (TooDeep number) (TooDeep n) (few, deep, least) (few', deep', least') = ap (λ (k : ℕ). TooDeep k) (least_one number n (least n deep') (least' number deep))
  same (TooDeep number) (Limit l) (few, deep, least) (few', passes) = absurd (deep_few nodes number few' deep)
  same (Limit limit) (TooManyNodes n) (few, passes) (many, is) = let le = few.few in absurd (omega (arith, many, le))
  same (Limit limit) (TooDeep n) (few, passes) (few', deep, least) = absurd (deep_few nodes n few deep)
  same (Limit limit) (Limit l) (few, passes) (few', passes') = ap (λ (x : BoxLimit). Limit x) (one_limit (styled_as_read nodes own rules) limit l passes passes')
  same Memory other is is' = absurd is
  same (TooManyNodes number) Memory is is' = absurd is'
  same (TooDeep number) Memory is is' = absurd is'
  same (Limit limit) Memory is is' = absurd is'

  -- by how many nodes there are and how deep they stand, then by boxes
  abbrev HasAnswer : Type 0
  HasAnswer = CanOpen nodes own rules ⊎ ((error : OpenError) × IsRefused nodes own rules error)

  by_boxes : AreFew nodes → IsWithinOrPasses (styled_as_read nodes own rules) → HasAnswer
  by_boxes few (inl within) = inl (record { few = few; within = within })
  by_boxes few (inr (limit, passes)) = inr (Limit limit, (few, passes))

  by_depths : length nodes ≤ greatest_count → All (λ depth. depth ≤ greatest_depth) (depths nodes) ⊎ ((place : ℕ) × IsLeastPast greatest_depth (depths nodes) place) → HasAnswer
  by_depths few (inl low) = by_boxes (record { few = few; low = low }) (within_or_passes (styled_as_read nodes own rules))
  by_depths few (inr (place, (deep, least))) = inr (TooDeep place, (few, deep, least))

  by_count : (b : Bool) → leb (length nodes) greatest_count ≡ b → HasAnswer
  by_count true is = by_depths (leb-true (length nodes) greatest_count is) (past_or_low greatest_depth (depths nodes))
  by_count false is = inr (TooManyNodes greatest_count, (leb-false (length nodes) greatest_count is, refl))

pub one_answer : HasOneAnswer
one_answer = record {
  some = λ nodes own rules. by_count nodes own rules (leb (length nodes) greatest_count) refl;
  only = λ nodes own rules error is. (not_open nodes own rules error is, λ other is'. same nodes own rules error other is is');
}
