-- The shifts of nodes, one node after the other.
use Rattle.std.proofs.Common.{◌≡◌, refl, sym, ap, ◌∙◌, ℕ, ◌+◌, ◌*◌, ◌^◌, ◌<◌, ◌≤◌, ◌==◌, Bool, true, false, List, [], ◌∷◌, length, take, reverse, get_or, Option, Some, None, ℤ, ◌+ℤ◌, unsigned_abs, arith}
use Rattle.std.proofs.lemmas.Int.{ints}
use Rattle.std.proofs.lemmas.List.{reverse-append, take_more}
use Rattle.place_map.specs.Placed.{Page}
use Rattle.rel_shift.specs.Bounds.{IsWithin}
use Rattle.rel_shift.specs.Own.{plus}
use Rattle.rel_shift.specs.Totals.{own, total_around, total_back, total_in, total_with}
use Rattle.rel_shift.specs.declared.insets.Shift.{Shift}
use Rattle.style_types.specs.declared.position.Position.{Position}
use Rattle.rel_shift.specs.declared.totals.Totals.{Totals}

-- ---- the sum

module _ (page : Page) (back : List Position) (totals : Totals) (so_far : (node : ℕ) → total_in totals node ≡ total_back page (Some node) back) where
  around : (parent : Option ℕ) → total_around totals parent ≡ total_back page parent back
  around None = refl
  around (Some node) = so_far node

  one_by : (p : Position) (node : ℕ) (is_it : Bool) → p.node == node ≡ is_it → total_with totals p (own page p) node ≡ total_back page (Some node) (p ∷ back)
  one_by p node true is = rw is (ap (λ (s : Shift). plus s (own page p)) (around p.parent))
  one_by p node false is = rw is (so_far node)

  one_more : (p : Position) (node : ℕ) → total_with totals p (own page p) node ≡ total_back page (Some node) (p ∷ back)
  one_more p node = one_by p node (p.node == node) refl

-- the last of the positions so far comes first
last_first : (positions : List Position) (k : ℕ) (d : Position) → k < length positions → reverse (take (k + 1) positions) ≡ get_or positions k d ∷ reverse (take k positions)
last_first positions k d lt = ap reverse (take_more positions k d lt) ∙ reverse-append (take k positions) (get_or positions k d ∷ [])

total_more : (page : Page) (positions : List Position) (k : ℕ) (d : Position) (totals new : Totals) (mine : Shift) → k < length positions
    → ((node : ℕ) → total_in totals node ≡ total_back page (Some node) (reverse (take k positions))) → mine ≡ own page (get_or positions k d)
    → ((node : ℕ) → total_in new node ≡ total_with totals (get_or positions k d) mine node)
    → (node : ℕ) → total_in new node ≡ total_back page (Some node) (reverse (take (k + 1) positions))
total_more page positions k d totals new mine lt so_far is made node =
    let p = get_or positions k d in
    made node
    ∙ ap (λ (s : Shift). total_with totals p s node) is
    ∙ one_more page (reverse (take k positions)) totals so_far p node
    ∙ sym (ap (total_back page (Some node)) (last_first positions k d lt))

-- ---- how far

sum_within : (k : ℕ) (a b : ℤ) → unsigned_abs a ≤ k * 2 ^ 32 → unsigned_abs b ≤ 2 ^ 32 → unsigned_abs (a +ℤ b) ≤ (k + 1) * 2 ^ 32
sum_within k a b p q = omega (arith, ints)

further : (k : ℕ) (a : ℤ) → unsigned_abs a ≤ k * 2 ^ 32 → unsigned_abs a ≤ (k + 1) * 2 ^ 32
further k a p = omega arith

module _ (k : ℕ) (totals : Totals) (p : Position) (mine : Shift) (so_far : (node : ℕ) → IsWithin (k * 2 ^ 32) (total_in totals node)) (near : IsWithin (2 ^ 32) mine) where
  around_within : (parent : Option ℕ) → IsWithin (k * 2 ^ 32) (total_around totals parent)
  around_within None = record { dx = omega arith; dy = omega arith }
  around_within (Some node) = so_far node

  within_by : (node : ℕ) (is_it : Bool) → p.node == node ≡ is_it → IsWithin ((k + 1) * 2 ^ 32) (total_with totals p mine node)
  within_by node true is =
      let front = around_within p.parent in
      rw is (record { dx = sum_within k (total_around totals p.parent).dx mine.dx front.dx near.dx; dy = sum_within k (total_around totals p.parent).dy mine.dy front.dy near.dy })
  within_by node false is = rw is (record { dx = further k (total_in totals node).dx (so_far node).dx; dy = further k (total_in totals node).dy (so_far node).dy })

  within_more : (new : Totals) → ((node : ℕ) → total_in new node ≡ total_with totals p mine node) → (node : ℕ) → IsWithin ((k + 1) * 2 ^ 32) (total_in new node)
  within_more new made node = rw (made node) (within_by node (p.node == node) refl)

-- with one position more
pub totals_more : (page : Page) (positions : List Position) (k : ℕ) (d : Position) (totals new : Totals) (mine : Shift) → k < length positions
    → ((node : ℕ) → total_in totals node ≡ total_back page (Some node) (reverse (take k positions))) × ((node : ℕ) → IsWithin (k * 2 ^ 32) (total_in totals node))
    → mine ≡ own page (get_or positions k d) → IsWithin (2 ^ 32) mine
    → ((node : ℕ) → total_in new node ≡ total_with totals (get_or positions k d) mine node)
    → ((node : ℕ) → total_in new node ≡ total_back page (Some node) (reverse (take (k + 1) positions))) × ((node : ℕ) → IsWithin ((k + 1) * 2 ^ 32) (total_in new node))
totals_more page positions k d totals new mine lt so_far is near made = (
  total_more page positions k d totals new mine lt so_far.0 is made,
  within_more k totals (get_or positions k d) mine so_far.1 near new made,
)
