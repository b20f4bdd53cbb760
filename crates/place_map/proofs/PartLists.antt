-- Fragments on the page one after the other: one of them, those inside it, and one more.
use Rattle.std.proofs.Common.{◌≡◌, refl, sym, ap, subst, ◌∙◌, ℕ, zero, suc, ◌+◌, ◌<◌, ◌≤◌, List, [], ◌∷◌, ◌++◌, length, drop, get_or, arith}
use Rattle.std.proofs.lemmas.List.{drop_more}
use Rattle.wm_modes.specs.declared.rects.Rect.{Rect}
use Rattle.wm_modes.specs.Near.{IsNear}
use Rattle.fragment_types.specs.declared.item.BoxName.{BoxName}
use Rattle.fragment_types.specs.Fragment.{Kind}
use Rattle.place_map.specs.Near.{AreNearParts}
use Rattle.place_map.specs.Parts.{Part, Parts, none, before, count, followed, parts_of}

abbrev pub part_with : BoxName → Rect → Kind → (inner : Parts) → Part
part_with name rect kind inner = record { name = name; rect = rect; kind = kind; inner = inner }

pub followed_push : (parts : List Part) (p : Part) (next : Parts) → followed (parts ++ p ∷ []) next ≡ followed parts (before p next)
followed_push [] p next = refl
followed_push (first ∷ parts) p next = ap (before first) (followed_push parts p next)

-- one of a list stands before the others from there on
pub item_here : {A : Type 0} (xs : List A) (k : ℕ) (x : A) → k < length xs → x ≡ get_or xs k x → drop k xs ≡ x ∷ drop (k + 1) xs
item_here {A} xs k x lt is = drop_more xs k x lt ∙ ap (λ (y : A). y ∷ drop (k + 1) xs) (sym is)

-- ---- a fragment and those inside it

pub fewer_inside : (p : Part) (below : List Part) → parts_of below ≡ p.inner → count (parts_of below) < count (before p none)
fewer_inside p below is = rw is (omega arith)

pub near_inside : (p : Part) (below : List Part) → parts_of below ≡ p.inner → AreNearParts (before p none) → AreNearParts (parts_of below)
near_inside p below is near = rw is near.2

-- ---- one of them

fewer_get : (ps : List Part) (k : ℕ) (d : Part) → k < length ps → count (before (get_or ps k d) none) ≤ count (parts_of ps)
fewer_get [] k d lt = absurd (omega arith)
fewer_get (p ∷ ps) zero d lt = omega arith
fewer_get (p ∷ ps) (suc k) d lt = omega (arith, fewer_get ps k d (omega arith))

near_get : (ps : List Part) (k : ℕ) (d : Part) → k < length ps → AreNearParts (parts_of ps) → AreNearParts (before (get_or ps k d) none)
near_get [] k d lt near = absurd (omega arith)
near_get (p ∷ ps) zero d lt near = (near.0, near.1, near.2, tt)
near_get (p ∷ ps) (suc k) d lt near = near_get ps k d (omega arith) near.3

module _ (ps : List Part) (k : ℕ) (p : Part) (lt : k < length ps) (is : p ≡ get_or ps k p) where
  pub fewer_at : count (before p none) ≤ count (parts_of ps)
  fewer_at = subst (λ (q : Part). count (before q none) ≤ count (parts_of ps)) (sym is) (fewer_get ps k p lt)

  pub fewer_below : (below : List Part) → parts_of below ≡ p.inner → count (parts_of below) < count (parts_of ps)
  fewer_below below inner = omega (arith, fewer_at, fewer_inside p below inner)

  pub near_at : AreNearParts (parts_of ps) → AreNearParts (before p none)
  near_at near = subst (λ (q : Part). AreNearParts (before q none)) (sym is) (near_get ps k p lt near)

  pub near_rect : AreNearParts (parts_of ps) → IsNear p.rect
  near_rect near = (near_at near).0

  pub near_below : (below : List Part) → parts_of below ≡ p.inner → AreNearParts (parts_of ps) → AreNearParts (parts_of below)
  near_below below inner near = near_inside p below inner (near_at near)
