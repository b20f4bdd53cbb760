-- Fragments on the page, shifted one by one.
use Rattle.std.proofs.Common.{◌≡◌, sym, ap, ◌∙◌, ℕ, ◌+◌, ◌<◌, ◌≤◌, List, [], ◌∷◌, ◌++◌, length, drop, get_or}
use Rattle.std.proofs.lemmas.List.{drop_all}
use Rattle.wm_modes.specs.declared.rects.Rect.{Rect}
use Rattle.fragment_types.specs.Fragment.{Kind}
use Rattle.place_map.specs.Parts.{Part, Parts, part, before, followed, parts_of}
use Rattle.place_map.proofs.PartLists.{followed_push, item_here, part_with}
use Rattle.rel_shift.specs.Shifting.{moved, shifted}
use Rattle.rel_shift.specs.declared.insets.Shift.{Shift}

module _ (total : ℕ → Shift) where
  -- a fragment is shifted with what stands inside it
  pub part_shifted : (p made : Part) (rect : Rect) (kind : Kind) (below children : List Part)
      → made ≡ part_with p.name rect kind (parts_of children) → rect ≡ moved (total p.name.node) p.rect → kind ≡ p.kind
      → parts_of children ≡ shifted total (parts_of below) → parts_of below ≡ p.inner
      → (next : Parts) → before made (shifted total next) ≡ shifted total (before p next)
  part_shifted p made rect kind below children is at same inner below_is next =
      ap (λ (q : Part). before q (shifted total next)) is
      ∙ (λ i. part p.name (at i) (same i) ((inner ∙ ap (shifted total) below_is) i) (shifted total next))

  -- one fragment more is shifted
  pub one_more : (ps : List Part) (k : ℕ) (p : Part) (made : List Part) (own : Part) (all : Parts)
      → k < length ps → p ≡ get_or ps k p → ((next : Parts) → before own (shifted total next) ≡ shifted total (before p next))
      → followed made (shifted total (parts_of (drop k ps))) ≡ all → followed (made ++ own ∷ []) (shifted total (parts_of (drop (k + 1) ps))) ≡ all
  one_more ps k p made own all lt is so so_far =
      followed_push made own (shifted total (parts_of (drop (k + 1) ps)))
      ∙ ap (followed made) (so (parts_of (drop (k + 1) ps)) ∙ sym (ap (λ (left : List Part). shifted total (parts_of left)) (item_here ps k p lt is)))
      ∙ so_far

  pub all_shifted : (ps : List Part) (k : ℕ) (made : List Part) (all : Parts)
      → length ps ≤ k → followed made (shifted total (parts_of (drop k ps))) ≡ all → parts_of made ≡ all
  all_shifted ps k made all end_ so_far = sym (ap (λ (l : List Part). followed made (shifted total (parts_of l))) (drop_all k ps end_)) ∙ so_far
