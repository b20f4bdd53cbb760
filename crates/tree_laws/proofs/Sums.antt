-- Sums over the numbers below one.
use Rattle.std.proofs.Common.{◌≡◌, ℕ, zero, suc, ◌+◌, ◌<◌, ◌≤◌, Bool, refl, ap, arith, if◌then◌else◌, inl, inr}
use Rattle.std.specs.Prelude.{nat_eq, ◌≢◌}
use Rattle.std.proofs.lemmas.Bool.{cases_lt, eq-eqb, ne_eqb}
use Rattle.tree_laws.specs.Weight.{sum_below}

pub sum_zero : (f : ℕ → ℕ) → sum_below f 0 ≡ 0
unfolding sum_below
sum_zero f = refl

pub sum_more : (f : ℕ → ℕ) (n : ℕ) → sum_below f (suc n) ≡ sum_below f n + f n
unfolding sum_below
sum_more f n = refl

pub sum_both : (f g : ℕ → ℕ) (n : ℕ) → sum_below (λ k. f k + g k) n ≡ sum_below f n + sum_below g n
unfolding sum_below
sum_both f g zero = refl
sum_both f g (suc n) = omega (arith, sum_both f g n)

pub sum_least : (f g : ℕ → ℕ) (n : ℕ) → ((k : ℕ) → k < n → f k ≤ g k) → sum_below f n ≤ sum_below g n
unfolding sum_below
sum_least f g zero less = omega arith
sum_least f g (suc n) less = omega (arith, sum_least f g n (λ k below. less k (omega (arith, below))), less n (omega arith))

pub sum_same : (f g : ℕ → ℕ) (n : ℕ) → ((k : ℕ) → k < n → f k ≡ g k) → sum_below f n ≡ sum_below g n
unfolding sum_below
sum_same f g zero same = refl
sum_same f g (suc n) same = omega (arith, sum_same f g n (λ k below. same k (omega (arith, below))), same n (omega arith))

-- nothing at each number
pub sum_none : (n : ℕ) → sum_below (λ k. 0) n ≡ 0
unfolding sum_below
sum_none zero = refl
sum_none (suc n) = omega (arith, sum_none n)

-- at one number alone
abbrev pub only : (number many : ℕ) → ℕ → ℕ
only number many k = if nat_eq k number then many else 0

only_here : (number many k : ℕ) → k ≡ number → only number many k ≡ many
only_here number many k same = ap (λ (b : Bool). if b then many else 0) (eq-eqb k number same)

only_there : (number many k : ℕ) → k ≢ number → only number many k ≡ 0
only_there number many k apart = ap (λ (b : Bool). if b then many else 0) (ne_eqb k number apart)

sum_past : (number many n : ℕ) → n ≤ number → sum_below (only number many) n ≡ 0
unfolding sum_below
sum_past number many zero past = refl
sum_past number many (suc n) past = omega (arith, sum_past number many n (omega (arith, past)), only_there number many n (λ same. omega (arith, past, same)))

pub sum_one : (number many n : ℕ) → number < n → sum_below (only number many) n ≡ many
unfolding sum_below
sum_one number many zero within = absurd (omega (arith, within))
sum_one number many (suc n) within = elim (cases_lt number n) [
  | inl early ↦ omega (arith, sum_one number many n early, only_there number many n (λ same. omega (arith, early, same)))
  | inr late ↦
      let last : n ≡ number = omega (arith, within, late) in
      omega (arith, sum_past number many n late, only_here number many n last)
]

-- no more than at one number
pub sum_only : (number many n : ℕ) → sum_below (only number many) n ≤ many
sum_only number many n = elim (cases_lt number n) [
  | inl within ↦ omega (arith, sum_one number many n within)
  | inr past ↦ omega (arith, sum_past number many n past)
]

-- the first apart from the others
pub sum_first : (f : ℕ → ℕ) (n : ℕ) → sum_below f (suc n) ≡ f 0 + sum_below (λ k. f (suc k)) n
unfolding sum_below
sum_first f zero = omega arith
sum_first f (suc n) = omega (arith, sum_first f n)

plus_none : (n : ℕ) → n + 0 ≡ n
plus_none n = omega arith

plus_more : (n more : ℕ) → n + suc more ≡ suc (n + more)
plus_more n more = omega arith

-- the others behind some
pub sum_behind : (f : ℕ → ℕ) (n more : ℕ) → sum_below f (n + more) ≡ sum_below f n + sum_below (λ k. f (n + k)) more
unfolding sum_below
sum_behind f n zero = omega (arith, ap (sum_below f) (plus_none n))
sum_behind f n (suc more) = omega (arith, ap (sum_below f) (plus_more n more), sum_behind f n more, sum_more f (n + more))
