-- The laws of shifts.
use Rattle.std.proofs.Common.{◌≡◌, refl, sym, ap, ◌∙◌, ℕ, ◌+◌, ◌≤◌, ◌==◌, Bool, true, false, ◌||◌, List, [], ◌∷◌, ◌++◌, reverse, Option, Some, None, is_some, ℤ, ◌+ℤ◌, unsigned_abs, arith, true≢false}
use Rattle.std.proofs.Math.IntN.{+ℤ_idr}
use Rattle.std.proofs.lemmas.Bool.{eq-eqb}
use Rattle.std.proofs.lemmas.Int.{ints}
use Rattle.std.proofs.lemmas.List.{append_assoc, reverse-append}
use Rattle.std.proofs.lemmas.List.Folds.{list_any-append}
use Rattle.std.specs.List.{list_any}
use Rattle.wm_modes.specs.declared.rects.Rect.{Rect}
use Rattle.place_map.specs.Placed.{Page, Parts, none, part}
use Rattle.rel_shift.specs.Bounds.{IsWithin}
use Rattle.rel_shift.specs.Laws.{AddUp, ArePlacesWithin, GoNoFurther, OnlyPlacesChange, StandsAfterParent, StayWithoutInsets, has_number, total_around, without_places}
use Rattle.rel_shift.specs.Own.{no_shift, plus}
use Rattle.rel_shift.specs.Positions.{has_insets}
use Rattle.rel_shift.specs.Shifting.{moved, shifted}
use Rattle.rel_shift.specs.Totals.{own, total, total_back}
use Rattle.rel_shift.specs.declared.insets.Shift.{Shift}
use Rattle.style_types.specs.declared.style.Insets.{Insets}
use Rattle.style_types.specs.declared.position.Position.{Position}

-- ---- what stays

places : (total : ℕ → Shift) (parts : Parts) → without_places (shifted total parts) ≡ without_places parts
places total none = refl
places total (part name rect kind inner next) = rw (places total inner, places total next) refl

pub only_places : OnlyPlacesChange
only_places = record { view = λ page positions. refl; parts = λ page positions. places (total page positions) page.parts }

moved_nowhere : (by : Shift) (rect : Rect) → by ≡ no_shift → moved by rect ≡ rect
moved_nowhere by rect is = rw is (λ i. record { x = +ℤ_idr rect.x i; y = +ℤ_idr rect.y i; w = rect.w; h = rect.h })

parts_stay : (total : ℕ → Shift) → ((node : ℕ) → total node ≡ no_shift) → (parts : Parts) → shifted total parts ≡ parts
parts_stay total is none = refl
parts_stay total is (part name rect kind inner next) =
    λ i. part name (moved_nowhere (total name.node) rect (is name.node) i) kind (parts_stay total is inner i) (parts_stay total is next i)

-- ---- positions from the last one back

both_false : (a b : Bool) → (a || b) ≡ false → (a ≡ false) × (b ≡ false)
both_false true b is = absurd (true≢false is)
both_false false b is = (refl, is)

none_reversed : (test : Position → Bool) (xs : List Position) → list_any test xs ≡ false → list_any test (reverse xs) ≡ false
none_reversed test [] is = refl
none_reversed test (x ∷ xs) is =
    let each = both_false (test x) (list_any test xs) is in
    ap (list_any test) (reverse-append (x ∷ []) xs) ∙ list_any-append test (reverse xs) (x ∷ []) ∙ rw (none_reversed test xs each.1, each.0) refl

no_insets : (insets : Option Insets) → is_some insets ≡ false → insets ≡ None
no_insets None is = refl
no_insets (Some insets) is = absurd (true≢false is)

module _ (page : Page) where
  none_by : (node : ℕ) (p : Position) (back : List Position) (is_it : Bool) → p.node == node ≡ is_it → p.insets ≡ None
      → ((sought : Option ℕ) → total_back page sought back ≡ no_shift) → total_back page (Some node) (p ∷ back) ≡ no_shift
  none_by node p back true is plain others = rw (is, plain, others p.parent) refl
  none_by node p back false is plain others = rw is (others (Some node))

  none_back : (back : List Position) → list_any has_insets back ≡ false → (sought : Option ℕ) → total_back page sought back ≡ no_shift
  none_back back none_has None = refl
  none_back [] none_has (Some node) = refl
  none_back (p ∷ back) none_has (Some node) =
      let each = both_false (has_insets p) (list_any has_insets back) none_has in
      none_by node p back (p.node == node) refl (no_insets p.insets each.0) (none_back back each.1)

  passed_by : (node : ℕ) (p : Position) (back : List Position) (is_it : Bool) → p.node == node ≡ is_it → is_it ≡ false
      → total_back page (Some node) (p ∷ back) ≡ total_back page (Some node) back
  passed_by node p back true is apart = absurd (true≢false apart)
  passed_by node p back false is apart = rw is refl

  -- positions of other numbers are passed
  passed : (node : ℕ) (later back : List Position) → list_any (has_number node) later ≡ false → total_back page (Some node) (later ++ back) ≡ total_back page (Some node) back
  passed node [] back apart = refl
  passed node (p ∷ later) back apart =
      let each = both_false (p.node == node) (list_any (has_number node) later) apart in
      passed_by node p (later ++ back) (p.node == node) refl each.0 ∙ passed node later back each.1

  found : (p : Position) (back : List Position) → total_back page (Some p.node) (p ∷ back) ≡ plus (total_back page p.parent back) (own page p)
  found p back = rw (eq-eqb p.node p.node refl) refl

  module _ (front after : List Position) (p : Position) (stands : StandsAfterParent p after) where
    around : (parent : Option ℕ) → p.parent ≡ parent → total_around page (front ++ p ∷ after) parent ≡ total_back page parent (reverse front)
    around None is = refl
    around (Some node) is =
        ap (total_back page (Some node)) (reverse-append front (p ∷ after))
        ∙ passed node (reverse (p ∷ after)) (reverse front) (none_reversed (has_number node) (p ∷ after) (stands.parent node is))

    pub adds_up : total page (front ++ p ∷ after) p.node ≡ plus (total_around page (front ++ p ∷ after) p.parent) (own page p)
    adds_up =
        let turned : reverse (front ++ p ∷ after) ≡ reverse after ++ p ∷ reverse front =
        reverse-append front (p ∷ after)
        ∙ ap (λ (l : List Position). l ++ reverse front) (reverse-append (p ∷ []) after)
        ∙ append_assoc (reverse after) (p ∷ []) (reverse front) in
        ap (total_back page (Some p.node)) turned
        ∙ passed p.node (reverse after) (p ∷ reverse front) (none_reversed (has_number p.node) after stands.once)
        ∙ found p (reverse front)
        ∙ sym (ap (λ (s : Shift). plus s (own page p)) (around p.parent refl))

pub stay : StayWithoutInsets
stay page positions none_has =
    λ i. record { view = page.view; parts = parts_stay (total page positions) (λ node. none_back page (reverse positions) (none_reversed has_insets positions none_has) (Some node)) page.parts i }

pub add_up : AddUp
add_up page front after p stands = adds_up page front after p stands

-- ---- how far

sum_within : (most more : ℕ) (a b : ℤ) → unsigned_abs a ≤ most → unsigned_abs b ≤ more → unsigned_abs (a +ℤ b) ≤ most + more
sum_within most more a b p q = omega (arith, ints)

go : (total : ℕ → Shift) (most more : ℕ) → ((node : ℕ) → IsWithin more (total node)) → (parts : Parts) → ArePlacesWithin most parts → ArePlacesWithin (most + more) (shifted total parts)
go total most more is none near = tt
go total most more is (part name rect kind inner next) near =
    let by = is name.node in
    (sum_within most more rect.x (total name.node).dx near.0 by.dx, sum_within most more rect.y (total name.node).dy near.1 by.dy, go total most more is inner near.2, go total most more is next near.3)

pub no_further : GoNoFurther
no_further page positions most more is near = go (total page positions) most more is page.parts near
