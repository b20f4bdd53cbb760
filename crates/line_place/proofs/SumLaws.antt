-- Sums over lists from the end on.
use Rattle.std.proofs.Common.{◌≡◌, ◌∙◌, ap, sym, refl, arith, ℕ, zero, suc, ◌+◌, ◌-◌, ◌<◌, ◌≤◌, List, [], ◌∷◌, ◌++◌, length, map, get_or, drop, ℤ, ◌+ℤ◌}
use Rattle.std.specs.Int.{int_max}
use Rattle.std.specs.List.{flat_map, fold}
use Rattle.std.proofs.lemmas.List.{drop_more, get_or-map, length-map}
use Rattle.line_place.specs.declared.line.LineBox.{LineBox}
use Rattle.line_place.specs.declared.marks.Mark as code_mark
use Rattle.line_place.specs.Leaves.{Leaf, nth_leaf, no_leaf}
use Rattle.line_place.specs.Marks.{mark_of}
use Rattle.line_place.specs.Placing.{advance, extent_of, width}
use Rattle.line_place.specs.Reach.{total}

pub back_of : {X Y : Type 0} (f : X → Y) (xs : List X) (from : ℕ) (x : X) → 0 < from → from ≤ length xs → x ≡ get_or xs (from - 1) x
    → drop (from - 1) (map f xs) ≡ f x ∷ drop from (map f xs)
back_of {Y = Y} f xs from x some le is =
    let l = length-map xs f in
    let e : from - 1 + 1 ≡ from = omega arith in
    drop_more (map f xs) (from - 1) (f x) (omega arith)
    ∙ ap (λ (y : Y). y ∷ drop (from - 1 + 1) (map f xs)) (get_or-map f xs (from - 1) x (f x) (omega arith) ∙ ap f (sym is))
    ∙ ap (λ (k : ℕ). f x ∷ drop k (map f xs)) e

pub total_back : {X Y : Type 0} (reach : Y → ℕ) (f : X → Y) (xs : List X) (from : ℕ) (x : X) → 0 < from → from ≤ length xs → x ≡ get_or xs (from - 1) x
    → total reach (drop (from - 1) (map f xs)) ≡ reach (f x) + total reach (drop from (map f xs))
total_back reach f xs from x some le is = ap (total reach) (back_of f xs from x some le is)

pub total_rest : {X : Type 0} (reach : X → ℕ) (xs : List X) (k : ℕ) → total reach (drop k xs) ≤ total reach xs
total_rest reach [] zero = omega arith
total_rest reach [] (suc k) = omega arith
total_rest reach (x ∷ xs) zero = omega arith
total_rest reach (x ∷ xs) (suc k) = let h = total_rest reach xs k in omega arith

-- one leaf more from the end on
leaf_back : (run : List Leaf) (from : ℕ) → 0 < from → from ≤ length run → drop (from - 1) run ≡ nth_leaf run (from - 1) ∷ drop from run
leaf_back run from some le =
    let e : from - 1 + 1 ≡ from = omega arith in
    drop_more run (from - 1) no_leaf (omega arith) ∙ ap (λ (k : ℕ). nth_leaf run (from - 1) ∷ drop k run) e

pub reach_back : (reach : Leaf → ℕ) (run : List Leaf) (from : ℕ) → 0 < from → from ≤ length run
    → total reach (drop (from - 1) run) ≡ reach (nth_leaf run (from - 1)) + total reach (drop from run)
reach_back reach run from some le = ap (total reach) (leaf_back run from some le)

pub extent_back : (run : List Leaf) (from : ℕ) → 0 < from → from ≤ length run
    → extent_of (drop (from - 1) run) ≡ (nth_leaf run (from - 1)).extent +ℤ extent_of (drop from run)
extent_back run from some le = ap extent_of (leaf_back run from some le)

pub width_back : {S : Type 0} (boxes : List LineBox) (marks : List (code_mark.Mark S)) (from : ℕ) (x : code_mark.Mark S) → 0 < from → from ≤ length marks → x ≡ get_or marks (from - 1) x
    → width boxes (drop (from - 1) (map mark_of marks)) ≡ advance boxes (mark_of x) +ℤ width boxes (drop from (map mark_of marks))
width_back boxes marks from x some le is = ap (width boxes) (back_of mark_of marks from x some le is)

-- ---- the greatest of a list of lengths

fold_append : (a : ℤ) (xs ys : List ℤ) → fold int_max a (xs ++ ys) ≡ fold int_max (fold int_max a xs) ys
fold_append a [] ys = refl
fold_append a (x ∷ xs) ys = fold_append (int_max a x) xs ys

pub more_max : {X Y : Type 0} (g : X → Y) (f : Y → List ℤ) (xs : List X) (k : ℕ) (x : X) (before given own total : ℤ) (values : List ℤ)
    → fold int_max before (flat_map f (drop k (map g xs))) ≡ total → k < length xs → x ≡ get_or xs k x → given ≡ before → values ≡ f (g x)
    → own ≡ fold int_max given values → fold int_max own (flat_map f (drop (k + 1) (map g xs))) ≡ total
more_max {Y = Y} g f xs k x before given own total values all lt is same at made =
    let l = length-map xs g in
    let d : drop k (map g xs) ≡ g x ∷ drop (k + 1) (map g xs) =
    drop_more (map g xs) k (g x) (omega arith) ∙ ap (λ (y : Y). y ∷ drop (k + 1) (map g xs)) (get_or-map g xs k x (g x) lt ∙ ap g (sym is)) in
    ap (λ (a : ℤ). fold int_max a (flat_map f (drop (k + 1) (map g xs)))) (made ∙ ap (λ (a : ℤ). fold int_max a values) same ∙ ap (fold int_max before) at)
    ∙ sym (fold_append before (f (g x)) (flat_map f (drop (k + 1) (map g xs))))
    ∙ ap (λ (ys : List Y). fold int_max before (flat_map f ys)) (sym d)
    ∙ all
