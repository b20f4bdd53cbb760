-- The least of some numbers is one of them, and none is below it; and of two lists it is the lesser of both.
use Rattle.std.proofs.Common.{◌≡◌, ◌∙◌, refl, sym, ap, ℕ, zero, suc, ◌≤◌, min, List, [], ◌∷◌, ◌++◌, length, subst, Option, Some, None, inl, inr, arith}
use Rattle.std.proofs.lemmas.Bool.{cases_lt}
use Rattle.std.specs.List.{Contains}
use Rattle.box_gen.specs.Building.{lesser, least}
use Rattle.box_gen.specs.Orthogonal.{IsLeastOf}

pub none_least : (numbers : List ℕ) → least numbers ≡ None → numbers ≡ []
unfolding least
none_least [] e = refl
none_least (number ∷ numbers) e = go (least numbers) e
  where
    go : (o : Option ℕ) → lesser (Some number) o ≡ None → number ∷ numbers ≡ []
    go None e = cc
    go (Some m) e = cc

first_in : (number n : ℕ) (numbers : List ℕ) → number ≡ n → Contains (number ∷ numbers) n
first_in number n numbers e = (0, omega arith, e)

later_in : (number n : ℕ) (numbers : List ℕ) → Contains numbers n → Contains (number ∷ numbers) n
later_in number n numbers (k, within, is) = (suc k, omega arith, is)

abbrev IsLeast : List ℕ → ℕ → Type 0
IsLeast numbers n = Contains numbers n × ((other : ℕ) → Contains numbers other → n ≤ other)

-- none is below n where the first isn't, and none of the others
bounded : (number n : ℕ) (numbers : List ℕ) → n ≤ number → ((other : ℕ) → Contains numbers other → n ≤ other) → (other : ℕ) → Contains (number ∷ numbers) other → n ≤ other
bounded number n numbers first later other (zero, within, same) = omega (arith, first, same)
bounded number n numbers first later other (suc k, within, same) = later other (k, omega arith, same)

-- the first number and the least of the others
with_first : (number n : ℕ) (numbers : List ℕ) (o : Option ℕ) → lesser (Some number) o ≡ Some n → o ≡ least numbers
    → ((m : ℕ) → least numbers ≡ Some m → IsLeast numbers m) → IsLeast (number ∷ numbers) n
with_first number n numbers None e o inner =
    let is : number ≡ n = cc in
    let empty : length numbers ≡ 0 = ap (λ (ns : List ℕ). length ns) (none_least numbers (sym o)) in
    (first_in number n numbers is, bounded number n numbers (omega arith) (λ other among. absurd (omega (arith, among.1))))
with_first number n numbers (Some m) e o inner =
    let is : min number m ≡ n = cc in
    let least_m = inner m (sym o) in (
      elim (cases_lt number m) [
        | inl less ↦ first_in number n numbers (omega arith)
        | inr more ↦ let same : m ≡ n = omega arith in later_in number n numbers (subst (Contains numbers) same least_m.0)
      ],
      bounded number n numbers (omega arith) (λ other among. let below : m ≤ other = least_m.1 other among in omega arith),
    )

pub least_is : (numbers : List ℕ) (n : ℕ) → least numbers ≡ Some n → IsLeast numbers n
unfolding least
least_is [] n e = cc
least_is (number ∷ numbers) n e = with_first number n numbers (least numbers) e refl (least_is numbers)

pub least_of : (numbers : List ℕ) (found : Option ℕ) → found ≡ least numbers → IsLeastOf numbers found
least_of numbers None is = none_least numbers (sym is)
least_of numbers (Some number) is = least_is numbers number (sym is)

-- ---- two lists

pub lesser_none : (o : Option ℕ) → lesser o None ≡ o
lesser_none None = refl
lesser_none (Some a) = refl

pub lesser_assoc : (o p q : Option ℕ) → lesser (lesser o p) q ≡ lesser o (lesser p q)
lesser_assoc None p q = refl
lesser_assoc (Some a) None q = refl
lesser_assoc (Some a) (Some b) None = refl
lesser_assoc (Some a) (Some b) (Some c) = ap (λ (n : ℕ). Some n) (omega arith)

pub least_append : (a b : List ℕ) → least (a ++ b) ≡ lesser (least a) (least b)
unfolding least
least_append [] b = refl
least_append (number ∷ a) b = ap (lesser (Some number)) (least_append a b) ∙ sym (lesser_assoc (Some number) (least a) (least b))
