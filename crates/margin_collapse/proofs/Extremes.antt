-- The extremes of lists that are joined, and of each list.
use Rattle.std.proofs.Common.{◌≡◌, arith, ◌⊎◌, inl, inr, List, [], ◌∷◌, ◌++◌, ℤ, pos, ◌≤ℤ◌}
use Rattle.std.specs.Int.{int_max, int_min}
use Rattle.std.specs.List.{All}
use Rattle.std.proofs.lemmas.Int.{ints, clamps, by_lt_z}
use Rattle.std.proofs.lemmas.List.Elements.{All-nil, All-cons}
use Rattle.basic_laws.proofs.Lists.{contains_equal, contains_other}
use Rattle.margin_collapse.specs.Margins.{greatest, least}
use Rattle.margin_collapse.specs.Pairs.{IsPairOf}
use Rattle.margin_collapse.specs.declared.margins.Margins.{Margins}
use Rattle.margin_collapse.specs.Laws.{IsGreatestPositive, IsLeastNegative}

pub greatest_from_zero : (xs : List ℤ) → pos 0 ≤ℤ greatest xs
greatest_from_zero [] = omega (arith, ints)
greatest_from_zero (x ∷ xs) = let rest = greatest_from_zero xs in omega (arith, ints, clamps)

pub least_to_zero : (xs : List ℤ) → least xs ≤ℤ pos 0
least_to_zero [] = omega (arith, ints)
least_to_zero (x ∷ xs) = let rest = least_to_zero xs in omega (arith, ints, clamps)

pub greatest_append : (xs ys : List ℤ) → greatest (xs ++ ys) ≡ int_max (greatest xs) (greatest ys)
greatest_append [] ys = let rest = greatest_from_zero ys in omega (arith, ints, clamps)
greatest_append (x ∷ xs) ys = let rest = greatest_append xs ys in omega (arith, ints, clamps)

pub least_append : (xs ys : List ℤ) → least (xs ++ ys) ≡ int_min (least xs) (least ys)
least_append [] ys = let rest = least_to_zero ys in omega (arith, ints, clamps)
least_append (x ∷ xs) ys = let rest = least_append xs ys in omega (arith, ints, clamps)

-- the greater of two is one of them
pub max_is : (x y : ℤ) → (int_max x y ≡ x) ⊎ ((int_max x y ≡ y) × (x ≤ℤ y))
max_is x y = by_lt_z y x (λ h. inl (omega (arith, ints, clamps))) (λ h. inr ((omega (arith, ints, clamps)), h))

pub min_is : (x y : ℤ) → (int_min x y ≡ x) ⊎ ((int_min x y ≡ y) × (y ≤ℤ x))
min_is x y = by_lt_z x y (λ h. inl (omega (arith, ints, clamps))) (λ h. inr ((omega (arith, ints, clamps)), h))

none_above_more : (xs : List ℤ) (y z : ℤ) → All (λ m. m ≤ℤ y) xs → y ≤ℤ z → All (λ m. m ≤ℤ z) xs
none_above_more xs y z a h = λ k d i. let at = a k d i in omega (arith, ints)

none_below_more : (xs : List ℤ) (y z : ℤ) → All (λ m. y ≤ℤ m) xs → z ≤ℤ y → All (λ m. z ≤ℤ m) xs
none_below_more xs y z a h = λ k d i. let at = a k d i in omega (arith, ints)

pub greatest_is : (xs : List ℤ) → IsGreatestPositive xs (greatest xs)
greatest_is [] = record {
  from_zero = omega (arith, ints);
  none_above = All-nil (λ m. m ≤ℤ pos 0);
  member = λ h. absurd (omega (arith, ints));
}
greatest_is (x ∷ xs) =
    let rest = greatest_is xs in
    let from_zero = rest.from_zero in
    record {
      from_zero = omega (arith, ints, clamps);
      none_above = All-cons (λ m. m ≤ℤ int_max x (greatest xs)) x xs (omega (arith, ints, clamps)) (none_above_more xs _ _ rest.none_above (omega (arith, ints, clamps)));
      member = λ h. elim (max_is x (greatest xs)) [
        | inl e ↦ contains_equal x _ xs e
        | inr p ↦ rw p.0 (contains_other x _ xs (rest.member (let e = p.0 in omega (arith, ints))))
      ];
    }

pub least_is : (xs : List ℤ) → IsLeastNegative xs (least xs)
least_is [] = record {
  to_zero = omega (arith, ints);
  none_below = All-nil (λ m. pos 0 ≤ℤ m);
  member = λ h. absurd (omega (arith, ints));
}
least_is (x ∷ xs) =
    let rest = least_is xs in
    let to_zero = rest.to_zero in
    record {
      to_zero = omega (arith, ints, clamps);
      none_below = All-cons (λ m. int_min x (least xs) ≤ℤ m) x xs (omega (arith, ints, clamps)) (none_below_more xs _ _ rest.none_below (omega (arith, ints, clamps)));
      member = λ h. elim (min_is x (least xs)) [
        | inl e ↦ contains_equal x _ xs e
        | inr p ↦ rw p.0 (contains_other x _ xs (rest.member (let e = p.0 in omega (arith, ints))))
      ];
    }

pub two_are_pair : (pair : Margins) → pos 0 ≤ℤ pair.positive → pair.negative ≤ℤ pos 0 → IsPairOf pair (pair.positive ∷ pair.negative ∷ [])
two_are_pair pair p n = record { positive = omega (arith, ints, clamps); negative = omega (arith, ints, clamps) }
