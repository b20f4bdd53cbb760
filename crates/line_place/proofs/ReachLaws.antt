-- How far the lengths of a line reach.
use Rattle.std.proofs.Common.{◌≡◌, ◌∙◌, ap, sym, refl, arith, Bool, true, false, ℕ, zero, suc, ◌+◌, ◌≤◌, List, [], ◌∷◌, ◌++◌, length, Option, Some, None, take, slice_index_or}
use Rattle.std.specs.Prelude.{slice_get}
use Rattle.std.specs.List.{cons_option, filter_map, range_with_len, sum_by}
use Rattle.std.specs.List.Sorted.{IsPermutation}
use Rattle.std.proofs.lemmas.List.{take_all}
use Rattle.std.proofs.lemmas.List.Sums.{sum_by-append}
use Rattle.std.proofs.lemmas.List.Sorted.{sum_by-IsPermutation}
use Rattle.line_place.specs.Line.{Item}
use Rattle.line_place.specs.Leaves.{Leaf, are_spaces, leaf, leaves_from}
use Rattle.line_place.specs.Reach.{item_reach, leaf_reach, total}

-- ---- sums

pub total_append : {X : Type 0} (reach : X → ℕ) (xs ys : List X) → total reach (xs ++ ys) ≡ total reach xs + total reach ys
total_append reach [] ys = omega arith
total_append reach (x ∷ xs) ys = let h = total_append reach xs ys in omega (arith, h)

total_sum : {X : Type 0} (reach : X → ℕ) (xs : List X) → total reach xs ≡ sum_by reach xs
total_sum reach [] = refl
total_sum reach (x ∷ xs) = let h = total_sum reach xs in let s = sum_by-append reach (x ∷ []) xs in omega (arith, h, s)

pub same_total : {X : Type 0} (f g : X → ℕ) (xs : List X) → ((x : X) → f x ≡ g x) → total f xs ≡ total g xs
same_total f g [] is = refl
same_total f g (x ∷ xs) is = let e = is x in let h = same_total f g xs is in omega (arith, e, h)

pub rearranged_total : {X : Type 0} (reach : X → ℕ) (xs ys : List X) → IsPermutation xs ys → total reach ys ≡ total reach xs
rearranged_total reach xs ys h = total_sum reach ys ∙ sum_by-IsPermutation reach xs ys h ∙ sym (total_sum reach xs)

pub shifted : (f : ℕ → ℕ) (a n : ℕ) → total f (range_with_len (a + 1) n) ≡ total (λ p. f (p + 1)) (range_with_len a n)
shifted f a zero = refl
shifted f a (suc n) = ap (λ (k : ℕ). f (a + 1) + k) (shifted f (a + 1) n)

-- a list by its places
by_place : {X : Type 0} (reach : Option X → ℕ) (xs : List X) → total (λ p. reach (slice_get xs p)) (range_with_len 0 (length xs)) ≡ total (λ x. reach (Some x)) xs
by_place reach [] = refl
by_place {X = X} reach (x ∷ xs) =
    ap (λ (n : ℕ). reach (Some x) + n)
    (shifted (λ p. reach (slice_get (x ∷ xs) p)) 0 (length xs)
    ∙ same_total (λ p. reach (slice_get (x ∷ xs) (p + 1))) (λ p. reach (slice_get xs p)) (range_with_len 0 (length xs))
    (λ p. let e : p + 1 ≡ suc p = omega arith in ap (λ (k : ℕ). reach (slice_get (x ∷ xs) k)) e)
    ∙ by_place reach xs)

pub by_index : {X : Type 0} (reach : X → ℕ) (xs : List X) (d : X) → total (λ p. reach (slice_index_or xs p d)) (range_with_len 0 (length xs)) ≡ total reach xs
by_index reach [] d = refl
by_index {X = X} reach (x ∷ xs) d =
    ap (λ (n : ℕ). reach x + n)
    (shifted (λ p. reach (slice_index_or (x ∷ xs) p d)) 0 (length xs)
    ∙ same_total (λ p. reach (slice_index_or (x ∷ xs) (p + 1) d)) (λ p. reach (slice_index_or xs p d)) (range_with_len 0 (length xs))
    (λ p. let e : p + 1 ≡ suc p = omega arith in ap (λ (k : ℕ). reach (slice_index_or (x ∷ xs) k d)) e)
    ∙ by_index reach xs d)

-- ---- the items of a line, each once

abbrev weigh : {X : Type 0} → (X → ℕ) → Option X → ℕ
weigh reach None = 0
weigh reach (Some x) = reach x

one_weighed : {X : Type 0} (reach : X → ℕ) (o : Option X) (rest : List X) → total reach (cons_option o rest) ≡ weigh reach o + total reach rest
one_weighed reach None rest = omega arith
one_weighed reach (Some x) rest = omega arith

filter_total : {X Y : Type 0} (h : X → Option Y) (reach : Y → ℕ) (xs : List X) → total reach (filter_map h xs) ≡ total (λ x. weigh reach (h x)) xs
filter_total h reach [] = refl
filter_total h reach (x ∷ xs) = let o = one_weighed reach (h x) (filter_map h xs) in let r = filter_total h reach xs in omega (arith, o, r)

hanging_reach : (place level : ℕ) (item : Item) (hangs : Bool) → leaf_reach (leaf place level item hangs) ≤ item_reach item
hanging_reach place level item true = omega arith
hanging_reach place level item false = omega arith

pub from_reach : (place : ℕ) (levels : List ℕ) (items : List Item) → total leaf_reach (leaves_from place levels items) ≤ total item_reach items
from_reach place [] items = omega arith
from_reach place (level ∷ levels) [] = omega arith
from_reach place (level ∷ levels) (item ∷ items) =
    let one = hanging_reach place level item (are_spaces (item ∷ items)) in
    let h = from_reach (place + 1) levels items in
    omega (arith, one, h)

pub from_length : (place : ℕ) (levels : List ℕ) (items : List Item) → length levels ≡ length items → length (leaves_from place levels items) ≡ length items
from_length place [] [] same = refl
from_length place [] (item ∷ items) same = absurd (omega (arith, same))
from_length place (level ∷ levels) [] same = absurd (omega (arith, same))
from_length place (level ∷ levels) (item ∷ items) same = ap suc (from_length (place + 1) levels items (omega (arith, same)))

pub leaves_reach : (levels : List ℕ) (items : List Item) (own places : List ℕ) (i : ℕ) (made : List Leaf) → length levels ≡ length items
    → IsPermutation (range_with_len 0 (length levels)) own
    → made ≡ filter_map (λ place. slice_get (leaves_from 0 levels items) place) (take i places) → length places ≤ i → places ≡ own
    → total leaf_reach made ≤ total item_reach items
leaves_reach levels items own places i made same perm is le p =
    let e : made ≡ filter_map (λ place. slice_get (leaves_from 0 levels items) place) own =
    is ∙ ap (filter_map (λ place. slice_get (leaves_from 0 levels items) place)) (take_all i places le ∙ p) in
    let t : total leaf_reach made ≡ total leaf_reach (leaves_from 0 levels items) =
    ap (total leaf_reach) e
    ∙ filter_total (λ place. slice_get (leaves_from 0 levels items) place) leaf_reach own
    ∙ rearranged_total (λ place. weigh leaf_reach (slice_get (leaves_from 0 levels items) place)) (range_with_len 0 (length levels)) own perm
    ∙ ap (λ (n : ℕ). total (λ place. weigh leaf_reach (slice_get (leaves_from 0 levels items) place)) (range_with_len 0 n)) (same ∙ sym (from_length 0 levels items same))
    ∙ by_place (weigh leaf_reach) (leaves_from 0 levels items) in
    let r = from_reach 0 levels items in
    omega (arith, t, r)
