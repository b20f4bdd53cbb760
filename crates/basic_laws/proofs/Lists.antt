-- Lists, beside what std has of them.
use Rattle.std.proofs.Common.{◌≡◌, ◌∙◌, refl, sym, ap, ℕ, zero, suc, ◌+◌, ◌-◌, ◌<◌, ◌≤◌, true, List, [], ◌∷◌, ◌++◌, length, get_or, take, drop, Option, Some, ◌⊎◌, inl, inr, append_assoc, length-append, length-drop, arith}
use Rattle.std.specs.Prelude.{nat_eq, slice_get, slice_range}
use Rattle.std.specs.List.{All, Contains, filter_map, list_any, range_with_len}
use Rattle.std.proofs.lemmas.Bool.{eqb-true}
use Rattle.std.proofs.lemmas.Cmp.{nat_eq_equiv}
use Rattle.std.proofs.lemmas.List.{get_or_push, length-take-le, take_more}
use Rattle.std.proofs.lemmas.List.Elements.{All-cons, All-nil, Contains-append_cases, Contains-append_right, filter_map-append}
use Rattle.std.proofs.lemmas.List.FromFn.{get_or-range_with_len, length-range_with_len}
use Rattle.std.proofs.lemmas.Map.Views.{Contains-from_any, list_any-from_Contains}
use Rattle.std.proofs.lemmas.Option.{slice_get-get_or}

-- ---- lists end to end

pub append_grouped : {A : Type 0} (a b c d : List A) → (a ++ (b ++ c)) ++ d ≡ a ++ (b ++ (c ++ d))
append_grouped a b c d = simp append_assoc

pub none_behind : {A : Type 0} (a b : List A) → [] ≡ a ++ b → b ≡ []
none_behind [] b is = sym is
none_behind (x ∷ a) b is = absurd cc

pub back_fits : {A : Type 0} (front back whole : List A) → whole ≡ front ++ back → length back ≤ length whole
back_fits front back whole is = omega (arith, ap length is, length-append front back)

pub slice_get_last : {A : Type 0} (xs : List A) (x : A) → slice_get (xs ++ x ∷ []) (length xs) ≡ Some x
slice_get_last xs x =
    let within : length xs < length (xs ++ x ∷ []) = omega (arith, length-append xs (x ∷ [])) in
    slice_get-get_or (xs ++ x ∷ []) (length xs) x within ∙ ap Some (get_or_push xs x x (length xs) refl)

pub filter_map_more : {A B : Type 0} (h : A → Option B) (xs : List A) (i : ℕ) (d : A) → i < length xs
    → filter_map h (take (i + 1) xs) ≡ filter_map h (take i xs) ++ filter_map (λ (o : Option B). o) (h (get_or xs i d) ∷ [])
filter_map_more h xs i d lt = ap (filter_map h) (take_more xs i d lt) ∙ filter_map-append h (take i xs) (get_or xs i d ∷ [])

-- ---- parts

pub range_empty : {A : Type 0} (xs : List A) (at : ℕ) → slice_range xs at at ≡ []
range_empty xs at = let e : at - at ≡ 0 = omega arith in rw e refl

pub range_length : {A : Type 0} (xs : List A) (from end_ : ℕ) → end_ ≤ length xs → length (slice_range xs from end_) ≡ end_ - from
range_length xs from end_ within = let d = length-drop from xs in length-take-le (end_ - from) (drop from xs) (omega arith)

-- ---- what each element is

pub all_alone : {A : Type 0} (P : A → Type 0) (x : A) → P x → All P (x ∷ [])
all_alone P x holds = All-cons P x [] holds (All-nil P)

pub range_below : (n : ℕ) → All (λ p. p < n) (range_with_len 0 n)
range_below n = λ k d lt.
    let long : length (range_with_len 0 n) ≡ n = length-range_with_len 0 n in
    let here : get_or (range_with_len 0 n) k d ≡ 0 + k = get_or-range_with_len 0 n k d (omega arith) in
    omega arith

-- ---- members

pub contains_first : {A : Type 0} (x : A) (others : List A) → Contains (x ∷ others) x
contains_first x others = (0, omega arith, refl)

pub contains_equal : {A : Type 0} (x y : A) (others : List A) → y ≡ x → Contains (x ∷ others) y
contains_equal x y others is = (0, omega arith, sym is)

pub contains_other : {A : Type 0} (x y : A) (others : List A) → Contains others y → Contains (x ∷ others) y
contains_other x y others there = Contains-append_right (x ∷ []) others y there

pub contains_none : {A : Type 0} (x : A) → Contains [] x → ⊥
contains_none x there = absurd (omega (arith, there.1))

pub contains_only : {A : Type 0} (x y : A) → Contains (x ∷ []) y → x ≡ y
contains_only x y (zero, below, is) = is
contains_only x y (suc k, below, is) = absurd (omega arith)

pub contains_cases : {A : Type 0} (x y : A) (others : List A) → Contains (x ∷ others) y → (x ≡ y) ⊎ Contains others y
contains_cases x y others there = elim (Contains-append_cases (x ∷ []) others y there) [
  | inl here ↦ inl (contains_only x y here)
  | inr later ↦ inr later
]

pub any_contained : (numbers : List ℕ) (number : ℕ) → Contains numbers number → list_any (nat_eq number) numbers ≡ true
any_contained numbers number there = list_any-from_Contains nat_eq_equiv number numbers there

pub contained_any : (numbers : List ℕ) (number : ℕ) → list_any (nat_eq number) numbers ≡ true → Contains numbers number
contained_any numbers number there = Contains-from_any eqb-true number numbers there
