-- Whether a number is in a list.
use Rattle.std.proofs.Common.{◌≡◌, ◌∙◌, ◌⊎◌, ℕ, zero, suc, ◌≤◌, Bool, true, false, List, [], ◌∷◌, ◌++◌, refl, ap, sym, subst, arith, if◌then◌else◌, inl, inr}
use Rattle.std.specs.Prelude.{flat_map, filter}
use Rattle.std.specs.List.{Contains}
use Rattle.box_gen.specs.Orthogonal.{put_if}
use Rattle.tree_laws.specs.Wholeness.{times}
use Rattle.tree_laws.proofs.Times.{hit, hit_same}

abbrev pub IsIn : (number : ℕ) → List ℕ → Type 0
IsIn number [] = ⊥
IsIn number (other ∷ others) = (other ≡ number) ⊎ IsIn number others

pub contained : (number : ℕ) (numbers : List ℕ) → IsIn number numbers → Contains numbers number
contained number [] there = absurd there
contained number (other ∷ others) (inl same) = (0, omega arith, same)
contained number (other ∷ others) (inr later) = let (k, within, is) = contained number others later in (suc k, omega (arith, within), is)

pub found : (number : ℕ) (numbers : List ℕ) → Contains numbers number → IsIn number numbers
found number [] (k, within, is) = absurd (omega (arith, within))
found number (other ∷ others) (zero, within, is) = inl is
found number (other ∷ others) (suc k, within, is) = inr (found number others (k, omega (arith, within), is))

pub only : (one number : ℕ) → IsIn number (one ∷ []) → number ≡ one
only one number (inl same) = sym same
only one number (inr later) = absurd later

-- ---- lists one after the other

pub in_first : (number : ℕ) (one two : List ℕ) → IsIn number one → IsIn number (one ++ two)
in_first number [] two there = absurd there
in_first number (other ∷ one) two (inl same) = inl same
in_first number (other ∷ one) two (inr later) = inr (in_first number one two later)

pub in_second : (number : ℕ) (one two : List ℕ) → IsIn number two → IsIn number (one ++ two)
in_second number [] two there = there
in_second number (other ∷ one) two there = inr (in_second number one two there)

pub in_either : (number : ℕ) (one two : List ℕ) → IsIn number (one ++ two) → IsIn number one ⊎ IsIn number two
in_either number [] two there = inr there
in_either number (other ∷ one) two (inl same) = inl (inl same)
in_either number (other ∷ one) two (inr later) = elim (in_either number one two later) [
  | inl first ↦ inl (inr first)
  | inr second ↦ inr second
]

module _ (of : ℕ → List ℕ) where
  pub in_all : (number first : ℕ) (numbers : List ℕ) → IsIn first numbers → IsIn number (of first) → IsIn number (flat_map of numbers)
  in_all number first [] among there = absurd among
  in_all number first (other ∷ others) (inl same) there = in_first number (of other) (flat_map of others) (subst (λ (n : ℕ). IsIn number (of n)) (sym same) there)
  in_all number first (other ∷ others) (inr later) there = in_second number (of other) (flat_map of others) (in_all number first others later there)

  pub of_one : (number : ℕ) (numbers : List ℕ) → IsIn number (flat_map of numbers) → (first : ℕ) × IsIn first numbers × IsIn number (of first)
  of_one number [] there = absurd there
  of_one number (other ∷ others) there = elim (in_either number (of other) (flat_map of others) there) [
    | inl here ↦ (other, inl refl, here)
    | inr later ↦ let (first, among, at) = of_one number others later in (first, inr among, at)
  ]

-- ---- those that pass a test

as_put : (passes : Bool) (number : ℕ) (others : List ℕ) → (if passes then number ∷ others else others) ≡ put_if passes number others
as_put true number others = refl
as_put false number others = refl

put_append : (passes : Bool) (number : ℕ) (one two : List ℕ) → put_if passes number one ++ two ≡ put_if passes number (one ++ two)
put_append true number one two = refl
put_append false number one two = refl

module _ (test : ℕ → Bool) where
  pub filter_put : (number : ℕ) (others : List ℕ) → filter test (number ∷ others) ≡ put_if (test number) number (filter test others)
  filter_put number others = as_put (test number) number (filter test others)

  pub filter_both : (one two : List ℕ) → filter test (one ++ two) ≡ filter test one ++ filter test two
  filter_both [] two = refl
  filter_both (number ∷ one) two =
      filter_put number (one ++ two) ∙ ap (put_if (test number) number) (filter_both one two)
      ∙ sym (ap (λ (l : List ℕ). l ++ filter test two) (filter_put number one) ∙ put_append (test number) number (filter test one) (filter test two))

  put_passes : (number other : ℕ) (others : List ℕ) (passes : Bool) → test other ≡ passes → (IsIn number others → test number ≡ true) → IsIn number (put_if passes other others) → test number ≡ true
  put_passes number other others true is later (inl same) = subst (λ (n : ℕ). test n ≡ true) same is
  put_passes number other others true is later (inr there) = later there
  put_passes number other others false is later there = later there

  pub passes : (number : ℕ) (numbers : List ℕ) → IsIn number (filter test numbers) → test number ≡ true
  passes number [] there = absurd there
  passes number (other ∷ others) there = put_passes number other (filter test others) (test other) refl (passes number others) (subst (IsIn number) (filter_put other others) there)

  put_in : (number other : ℕ) (others : List ℕ) (passes : Bool) → test other ≡ passes → test number ≡ true → (other ≡ number) ⊎ IsIn number others → IsIn number (put_if passes other others)
  put_in number other others true is good (inl same) = inl same
  put_in number other others true is good (inr later) = inr later
  put_in number other others false is good (inl same) = absurd (let both : true ≡ false = sym good ∙ ap test (sym same) ∙ is in cc)
  put_in number other others false is good (inr later) = later

  pub kept : (number : ℕ) (numbers : List ℕ) → IsIn number numbers → test number ≡ true → IsIn number (filter test numbers)
  kept number [] there good = absurd there
  kept number (other ∷ others) (inl same) good = subst (IsIn number) (sym (filter_put other others)) (put_in number other (filter test others) (test other) refl good (inl same))
  kept number (other ∷ others) (inr later) good = subst (IsIn number) (sym (filter_put other others)) (put_in number other (filter test others) (test other) refl good (inr (kept number others later good)))

  put_from : (number other : ℕ) (others : List ℕ) (passes : Bool) → IsIn number (put_if passes other others) → (other ≡ number) ⊎ IsIn number others
  put_from number other others true there = there
  put_from number other others false there = inr there

  pub from_all : (number : ℕ) (numbers : List ℕ) → IsIn number (filter test numbers) → IsIn number numbers
  from_all number [] there = absurd there
  from_all number (other ∷ others) there = elim (put_from number other (filter test others) (test other) (subst (IsIn number) (filter_put other others) there)) [
    | inl same ↦ inl same
    | inr later ↦ inr (from_all number others later)
  ]

-- ---- how often it is there

pub times_in : (number : ℕ) (numbers : List ℕ) → IsIn number numbers → 1 ≤ times number numbers
times_in number [] there = absurd there
times_in number (other ∷ others) (inl same) =
    let one : hit number other ≡ 1 = subst (λ (n : ℕ). hit number n ≡ 1) (sym same) (hit_same number) in
    omega (arith, one)
times_in number (other ∷ others) (inr later) = omega (arith, times_in number others later)
