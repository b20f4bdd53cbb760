-- A visual order has each item's place once.
use Rattle.std.proofs.Common.{◌≡◌, ◌∙◌, ap, sym, refl, arith, ℕ, zero, suc, ◌+◌, ◌<◌, Bool, false, ◌==◌, cond, List, [], ◌∷◌, length, get_or, Option, Some, None, inl, inr, slice_index_or}
use Rattle.std.specs.List.{cons_option, filter_map, range_with_len, remove, sum_by}
use Rattle.std.specs.List.Sorted.{IsPermutation}
use Rattle.std.proofs.lemmas.Bool.Decides.{eqb_tells}
use Rattle.std.proofs.lemmas.List.Sums.{sum_by-cons}
use Rattle.std.proofs.lemmas.List.Sorted.{IsPermutation-cons, IsPermutation-refl, IsPermutation-remove, IsPermutation-sym, IsPermutation-trans, sum_by-IsPermutation}
use Rattle.bidi_order.specs.declared.visual.Seat.{Seat}
use Rattle.bidi_order.specs.Visual.{seat, seats, seats_from, within_line}

-- ---- lists of numbers with the same sums

abbrev one_for : (x : ℕ) → ℕ → ℕ
one_for x y = cond (y == x) 1 0

one_for_itself : (x : ℕ) → one_for x x ≡ 1
one_for_itself x = elim (eqb_tells x x) [ inl (is, e) ↦ ap (λ (b : Bool). cond b 1 0) is | inr (is, ne) ↦ absurd (ne refl) ]

none_for : (x y : ℕ) → (y == x) ≡ false → one_for x y ≡ 0
none_for x y is = ap (λ (b : Bool). cond b 1 0) is

stands : (x : ℕ) (ys : List ℕ) → 0 < sum_by (one_for x) ys → (i : ℕ) × (i < length ys) × (get_or ys i x ≡ x)
stands x [] some = absurd (omega (arith, some))
stands x (y ∷ ys) some = elim (eqb_tells y x) [
  | inl (is, e) ↦ (0, omega arith, e)
  | inr (is, ne) ↦
      let c = sum_by-cons (one_for x) y ys in
      let n = none_for x y is in
      let k = stands x ys (omega (arith, some, c, n)) in
      let lt = k.1 in
      (suc k.0, omega (arith, lt), k.2)
]

by_sums : (xs ys : List ℕ) → ((f : ℕ → ℕ) → sum_by f ys ≡ sum_by f xs) → IsPermutation xs ys
by_sums [] [] same = IsPermutation-refl []
by_sums [] (y ∷ ys) same =
    let c = sum_by-cons (λ (n : ℕ). 1) y ys in
    let s = same (λ (n : ℕ). 1) in
    absurd (omega (arith, c, s))
by_sums (x ∷ xs) ys same =
    let c = sum_by-cons (one_for x) x xs in
    let o = one_for_itself x in
    let s = same (one_for x) in
    let k = stands x ys (omega (arith, c, o, s)) in
    let moved : IsPermutation ys (x ∷ remove ys k.0) = IsPermutation-remove ys k.0 x k.1 (sym k.2) in
    let rest : IsPermutation xs (remove ys k.0) = by_sums xs (remove ys k.0) (λ f.
    let m = sum_by-IsPermutation f ys (x ∷ remove ys k.0) moved in
    let d = sum_by-cons f x (remove ys k.0) in
    let e = sum_by-cons f x xs in
    let t = same f in
    omega (arith, m, d, e, t)) in
    IsPermutation-trans (x ∷ xs) (x ∷ remove ys k.0) ys (IsPermutation-cons x xs (remove ys k.0) rest) (IsPermutation-sym ys (x ∷ remove ys k.0) moved)

-- ---- sums of what a list gives

abbrev weigh : {X : Type 0} → (X → ℕ) → Option X → ℕ
weigh f None = 0
weigh f (Some x) = f x

one_weighed : {X : Type 0} (f : X → ℕ) (o : Option X) (rest : List X) → sum_by f (cons_option o rest) ≡ weigh f o + sum_by f rest
one_weighed f None rest = omega arith
one_weighed f (Some x) rest = sum_by-cons f x rest

filter_sum : {X Y : Type 0} (h : X → Option Y) (f : Y → ℕ) (xs : List X) → sum_by f (filter_map h xs) ≡ sum_by (λ x. weigh f (h x)) xs
filter_sum h f [] = refl
filter_sum {X = X} h f (x ∷ xs) =
    let o = one_weighed f (h x) (filter_map h xs) in
    let r = filter_sum h f xs in
    let c = sum_by-cons (λ (y : X). weigh f (h y)) x xs in
    omega (arith, o, r, c)

same_sum : {X : Type 0} (f g : X → ℕ) (xs : List X) → ((x : X) → f x ≡ g x) → sum_by f xs ≡ sum_by g xs
same_sum f g [] is = refl
same_sum f g (x ∷ xs) is =
    let c = sum_by-cons f x xs in
    let d = sum_by-cons g x xs in
    let e = is x in
    let h = same_sum f g xs is in
    omega (arith, c, d, e, h)

shifted : (f : ℕ → ℕ) (a n : ℕ) → sum_by f (range_with_len (a + 1) n) ≡ sum_by (λ p. f (p + 1)) (range_with_len a n)
shifted f a zero = refl
shifted f a (suc n) =
    let c = sum_by-cons f (a + 1) (range_with_len (a + 1 + 1) n) in
    let d = sum_by-cons (λ (p : ℕ). f (p + 1)) a (range_with_len (a + 1) n) in
    let h = shifted f (a + 1) n in
    omega (arith, c, d, h)

by_index : {X : Type 0} (f : X → ℕ) (xs : List X) (d : X) → sum_by (λ p. f (slice_index_or xs p d)) (range_with_len 0 (length xs)) ≡ sum_by f xs
by_index f [] d = refl
by_index f (x ∷ xs) d =
    let c = sum_by-cons (λ (p : ℕ). f (slice_index_or (x ∷ xs) p d)) 0 (range_with_len (0 + 1) (length xs)) in
    let s = shifted (λ (p : ℕ). f (slice_index_or (x ∷ xs) p d)) 0 (length xs) in
    let t = same_sum (λ (p : ℕ). f (slice_index_or (x ∷ xs) (p + 1) d)) (λ (p : ℕ). f (slice_index_or xs p d)) (range_with_len 0 (length xs))
    (λ p. let e : p + 1 ≡ suc p = omega arith in ap (λ (k : ℕ). f (slice_index_or (x ∷ xs) k d)) e) in
    let h = by_index f xs d in
    let e = sum_by-cons f x xs in
    omega (arith, c, s, t, h, e)

-- ---- the items of the seats

seat_sum : (f : ℕ → ℕ) (item : ℕ) (levels : List ℕ) (aparts : List (Option ℕ)) → length levels ≡ length aparts
    → sum_by (λ s. weigh f s.item) (seats_from item levels aparts) ≡ sum_by f (range_with_len item (length levels))
seat_sum f item [] aparts same = refl
seat_sum f item (level ∷ levels) [] same = absurd (omega (arith, same))
seat_sum f item (level ∷ levels) (None ∷ aparts) same =
    let h = seat_sum f (item + 1) levels aparts (omega (arith, same)) in
    let c = sum_by-cons (λ (s : Seat). weigh f s.item) (seat level (Some item)) (seats_from (item + 1) levels aparts) in
    let d = sum_by-cons f item (range_with_len (item + 1) (length levels)) in
    omega (arith, h, c, d)
seat_sum f item (level ∷ levels) (Some apart ∷ aparts) same =
    let h = seat_sum f (item + 1) levels aparts (omega (arith, same)) in
    let b = sum_by-cons (λ (s : Seat). weigh f s.item) (seat apart None) (seat level (Some item) ∷ seats_from (item + 1) levels aparts) in
    let c = sum_by-cons (λ (s : Seat). weigh f s.item) (seat level (Some item)) (seats_from (item + 1) levels aparts) in
    let d = sum_by-cons f item (range_with_len (item + 1) (length levels)) in
    omega (arith, h, b, c, d)

pub within_length : (aparts : List (Option ℕ)) → length (within_line aparts) ≡ length aparts
within_length [] = refl
within_length (apart ∷ aparts) = refl

-- where this is an order of all the seats, the items in it are a rearrangement of all items
pub once : (levels : List ℕ) (aparts : List (Option ℕ)) (order : List ℕ) → length levels ≡ length aparts
    → IsPermutation (range_with_len 0 (length (seats levels aparts))) order
    → IsPermutation (range_with_len 0 (length levels)) (filter_map (λ p. (slice_index_or (seats levels aparts) p (seat 0 None)).item) order)
once levels aparts order same perm = by_sums _ _ (λ f.
    filter_sum (λ p. (slice_index_or (seats levels aparts) p (seat 0 None)).item) f order
    ∙ sum_by-IsPermutation (λ p. weigh f (slice_index_or (seats levels aparts) p (seat 0 None)).item) (range_with_len 0 (length (seats levels aparts))) order perm
    ∙ by_index (λ s. weigh f s.item) (seats levels aparts) (seat 0 None)
    ∙ seat_sum f 0 levels (within_line aparts) (same ∙ sym (within_length aparts)))
