-- Fragments of a page, turned one by one.
use Rattle.std.proofs.Common.{◌≡◌, sym, ap, ◌∙◌, ℕ, ◌+◌, ◌<◌, ◌≤◌, List, [], ◌∷◌, ◌++◌, length, drop, get_or}
use Rattle.std.proofs.lemmas.List.{drop_all}
use Rattle.wm_modes.specs.declared.mode.WritingMode.{WritingMode}
use Rattle.wm_modes.specs.declared.rects.Rect.{Rect}
use Rattle.wm_units.specs.declared.view.View.{View}
use Rattle.fragment_types.specs.Fragment.{Kind}
use Rattle.place_map.specs.Parts.{Part, Parts, part, before, followed, parts_of}
use Rattle.place_map.proofs.PartLists.{followed_push, item_here, part_with}
use Rattle.page_turn.specs.Kinds.{kind_in}
use Rattle.page_turn.specs.Rects.{rect_turned}
use Rattle.page_turn.specs.Turning.{turned_parts}

module _ (mode : WritingMode) (view : View) where
  -- a fragment is turned with what stands inside it
  pub part_turned : (p made : Part) (rect : Rect) (kind : Kind) (below children : List Part)
      → made ≡ part_with p.name rect kind (parts_of children) → rect ≡ rect_turned mode view p.rect → kind ≡ kind_in mode p.kind
      → parts_of children ≡ turned_parts mode view (parts_of below) → parts_of below ≡ p.inner
      → (next : Parts) → before made (turned_parts mode view next) ≡ turned_parts mode view (before p next)
  part_turned p made rect kind below children is at of inner below_is next =
      ap (λ (q : Part). before q (turned_parts mode view next)) is
      ∙ (λ i. part p.name (at i) (of i) ((inner ∙ ap (turned_parts mode view) below_is) i) (turned_parts mode view next))

  -- one fragment more is turned
  pub one_more : (ps : List Part) (k : ℕ) (p : Part) (made : List Part) (own : Part) (all : Parts)
      → k < length ps → p ≡ get_or ps k p → ((next : Parts) → before own (turned_parts mode view next) ≡ turned_parts mode view (before p next))
      → followed made (turned_parts mode view (parts_of (drop k ps))) ≡ all → followed (made ++ own ∷ []) (turned_parts mode view (parts_of (drop (k + 1) ps))) ≡ all
  one_more ps k p made own all lt is so so_far =
      followed_push made own (turned_parts mode view (parts_of (drop (k + 1) ps)))
      ∙ ap (followed made) (so (parts_of (drop (k + 1) ps)) ∙ sym (ap (λ (left : List Part). turned_parts mode view (parts_of left)) (item_here ps k p lt is)))
      ∙ so_far

  pub all_turned : (ps : List Part) (k : ℕ) (made : List Part) (all : Parts)
      → length ps ≤ k → followed made (turned_parts mode view (parts_of (drop k ps))) ≡ all → parts_of made ≡ all
  all_turned ps k made all end_ so_far =
      sym (ap (λ (l : List Part). followed made (turned_parts mode view (parts_of l))) (drop_all k ps end_)) ∙ so_far
