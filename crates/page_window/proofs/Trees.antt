-- What is kept of fragments one after the other.
use Rattle.std.proofs.Common.{◌≡◌, refl, sym, ap, subst, ◌∙◌, ℕ, ◌+◌, ◌<◌, ◌≤◌, ◌==◌, Bool, true, false, ◌||◌, not, if◌then◌else◌, List, [], ◌∷◌, length, drop, get_or, Option, Some, None, arith}
use Rattle.std.proofs.lemmas.Bool.{ne_eqb}
use Rattle.std.proofs.lemmas.List.{drop_all}
use Rattle.wm_modes.specs.declared.rects.Rect.{Rect}
use Rattle.wm_units.specs.declared.view.View.{View}
use Rattle.place_map.specs.Bound.{AreIn}
use Rattle.place_map.specs.Near.{AreNearParts}
use Rattle.place_map.specs.Parts.{Part, Parts, none, part, before, followed, parts_of}
use Rattle.place_map.specs.declared.bound.Bound.{Bound}
use Rattle.place_map.proofs.PartLists.{item_here, part_with}
use Rattle.page_window.specs.Rects.{MeetsNone, meets}
use Rattle.page_window.specs.Windowing.{before_if, is_none, kept, window, window_parts, with_view}

pub no_parts : (ps : List Part) → (length ps == 0) ≡ is_none (parts_of ps)
no_parts [] = refl
no_parts (p ∷ ps) = ne_eqb (length (p ∷ ps)) 0 (λ e. omega (arith, e))

left_out : (is_met : Bool) (p : Part) (next : Parts) → is_met ≡ false → p.inner ≡ none → kept is_met p next ≡ next
left_out is_met p next not_met empty =
    ap (λ (b : Bool). kept b p next) not_met ∙ ap (λ (inner : Parts). if false || not (is_none inner) then before p next else next) empty

near_if : (is_kept : Bool) (p : Part) (next : Parts) → AreNearParts (before p none) → AreNearParts next → AreNearParts (if is_kept then before p next else next)
near_if true p next own others = (own.0, own.1, own.2, others)
near_if false p next own others = others

module _ (rect : Rect) where
  -- nothing is kept of what lies in a bound that the rectangle doesn't reach
  none_kept : (bound : Bound) → MeetsNone rect bound → (parts : Parts) → AreIn bound parts → window_parts rect parts ≡ none
  none_kept bound misses none lie = refl
  none_kept bound misses (part name own kind inner next) lie =
      left_out (meets rect own) (part_with name own kind (window_parts rect inner)) (window_parts rect next) (misses name.node own lie.0) (none_kept bound misses inner lie.1)
      ∙ none_kept bound misses next lie.2

  pub part_away : (p : Part) (bound : Bound) → MeetsNone rect bound → AreIn bound (before p none) → (next : Parts) → window_parts rect next ≡ window_parts rect (before p next)
  part_away p bound misses lies next =
      sym (left_out (meets rect p.rect) (part_with p.name p.rect p.kind (window_parts rect p.inner)) (window_parts rect next) (misses p.name.node p.rect lies.0) (none_kept bound misses p.inner lies.1))

  pub part_there : (p : Part) (made : Option Part) (below children : List Part)
      → ((next : Parts) → before_if made next ≡ kept (meets rect p.rect) (part_with p.name p.rect p.kind (parts_of children)) next)
      → parts_of children ≡ window_parts rect (parts_of below) → parts_of below ≡ p.inner
      → (next : Parts) → before_if made (window_parts rect next) ≡ window_parts rect (before p next)
  part_there p made below children so inner below_is next =
      so (window_parts rect next)
      ∙ ap (λ (i : Parts). kept (meets rect p.rect) (part_with p.name p.rect p.kind i) (window_parts rect next)) (inner ∙ ap (window_parts rect) below_is)

  -- one fragment more is looked at
  pub one_more : (ps : List Part) (k : ℕ) (p : Part) (made more : List Part) (own : Option Part) (all : Parts) → k < length ps → p ≡ get_or ps k p
      → ((next : Parts) → before_if own (window_parts rect next) ≡ window_parts rect (before p next)) → ((next : Parts) → followed more next ≡ followed made (before_if own next))
      → followed made (window_parts rect (parts_of (drop k ps))) ≡ all → followed more (window_parts rect (parts_of (drop (k + 1) ps))) ≡ all
  one_more ps k p made more own all lt is so pushed so_far =
      pushed (window_parts rect (parts_of (drop (k + 1) ps)))
      ∙ ap (followed made) (so (parts_of (drop (k + 1) ps)) ∙ sym (ap (λ (left : List Part). window_parts rect (parts_of left)) (item_here ps k p lt is)))
      ∙ so_far

  pub all_looked_at : (ps : List Part) (k : ℕ) (made : List Part) (all : Parts)
      → length ps ≤ k → followed made (window_parts rect (parts_of (drop k ps))) ≡ all → parts_of made ≡ all
  all_looked_at ps k made all end_ so_far =
      sym (ap (λ (l : List Part). followed made (window_parts rect (parts_of l))) (drop_all k ps end_)) ∙ so_far

  near_parts : (parts : Parts) → AreNearParts parts → AreNearParts (window_parts rect parts)
  near_parts none near = tt
  near_parts (part name own kind inner next) near =
      let within = window_parts rect inner in
      near_if (meets rect own || not (is_none within)) (part_with name own kind within) (window_parts rect next) (near.0, near.1, near_parts inner near.2, tt) (near_parts next near.3)

  -- ---- the page

  module _ (root : Part) (made : Option Part) (so : (next : Parts) → before_if made (window_parts rect next) ≡ window_parts rect (before root next)) where
    pub no_page : (view : View) → made ≡ None → None ≡ window rect (record { view = view; parts = before root none })
    no_page view is = ap (λ (m : Option Part). with_view view (before_if m none)) (sym is) ∙ ap (with_view view) (so none)

    pub near_page : (own : Part) → made ≡ Some own → AreNearParts (before root none) → AreNearParts (before own none)
    near_page own is near = subst AreNearParts (sym (ap (λ (m : Option Part). before_if m none) (sym is) ∙ so none)) (near_parts (before root none) near)
