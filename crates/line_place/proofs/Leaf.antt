-- The item at a place of a line.
use Rattle.std.proofs.Common.{◌≡◌, ◌∙◌, ap, sym, arith, Bool, ℕ, zero, suc, ◌+◌, ◌<◌, List, [], ◌∷◌, length, get_or, drop, Some, add-zero}
use Rattle.std.specs.Prelude.{slice_get}
use Rattle.line_place.specs.Line.{Item, no_item}
use Rattle.line_place.specs.Leaves.{leaf, leaves_from, are_spaces}

leaf_there : (s : ℕ) (levels : List ℕ) (items : List Item) (k : ℕ) (d : Item) → k < length levels → length levels ≡ length items
    → slice_get (leaves_from s levels items) k ≡ Some (leaf (s + k) (get_or levels k 0) (get_or items k d) (are_spaces (drop k items)))
leaf_there s [] items k d lt same = absurd (omega arith)
leaf_there s (level ∷ levels) [] k d lt same = absurd (omega arith)
leaf_there s (level ∷ levels) (item ∷ items) zero d lt same = ap (λ (p : ℕ). Some (leaf p level item (are_spaces (item ∷ items)))) (sym (add-zero s))
leaf_there s (level ∷ levels) (item ∷ items) (suc k) d lt same =
    let e : s + 1 + k ≡ s + suc k = omega arith in
    leaf_there (s + 1) levels items k d (omega arith) (omega arith)
    ∙ ap (λ (p : ℕ). Some (leaf p (get_or levels k 0) (get_or items k d) (are_spaces (drop k items)))) e

pub leaf_at : (levels : List ℕ) (items : List Item) (k : ℕ) (hangs : Bool) → k < length items → length levels ≡ length items
    → are_spaces (drop k items) ≡ hangs → Some (leaf k (get_or levels k 0) (get_or items k no_item) hangs) ≡ slice_get (leaves_from 0 levels items) k
leaf_at levels items k hangs lt same is =
    let z : 0 + k ≡ k = omega arith in
    sym (leaf_there 0 levels items k no_item (omega arith) same
    ∙ ap (λ (p : ℕ). Some (leaf p (get_or levels k 0) (get_or items k no_item) (are_spaces (drop k items)))) z
    ∙ ap (λ (h : Bool). Some (leaf k (get_or levels k 0) (get_or items k no_item) h)) is)
