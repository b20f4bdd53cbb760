-- What a visitor is that has seen a fragment of the page more.
use Rattle.std.proofs.Common.{◌≡◌, sym, ap, ◌∙◌, ℕ, ◌+◌, ◌<◌, List, ◌++◌, length, drop, get_or, fold}
use Rattle.std.proofs.lemmas.List.Sums.{fold-append}
use Rattle.wm_modes.specs.declared.mode.WritingMode.{WritingMode}
use Rattle.fragment_types.specs.Fragment.{Kind}
use Rattle.place_map.specs.Bound.{AreIn}
use Rattle.place_map.specs.Parts.{Part, none, before, parts_of}
use Rattle.place_map.specs.declared.bound.Bound.{Bound}
use Rattle.place_map.proofs.PartLists.{item_here}
use Rattle.hit_caret.specs.declared.cells.Cell.{Cell}
use Rattle.hit_caret.specs.Cells.{cells_in, mode_inside, own_cells}
use Rattle.hit_caret.specs.Visiting.{IgnoresAll}
use Rattle.hit_caret.proofs.SkipLaws.{part_unseen}

module _ (ps : List Part) (k : ℕ) (p : Part) (lt : k < length ps) (is : p ≡ get_or ps k p) where
  module _ (mode : WritingMode) where
    cells_here : cells_in mode (parts_of (drop k ps))
        ≡ own_cells mode p.name.node p.rect p.kind ++ (cells_in (mode_inside mode p.kind) p.inner ++ cells_in mode (parts_of (drop (k + 1) ps)))
    cells_here = ap (λ (l : List Part). cells_in mode (parts_of l)) (item_here ps k p lt is)

    module _ {V : Type 0} (seen : V → Cell → V) (v all : V) (so_far : fold seen v (cells_in mode (parts_of (drop k ps))) ≡ all) where
      here : List Cell
      here = own_cells mode p.name.node p.rect p.kind

      within : List Cell
      within = cells_in (mode_inside mode p.kind) p.inner

      rest : List Cell
      rest = cells_in mode (parts_of (drop (k + 1) ps))

      in_order : all ≡ fold seen (fold seen (fold seen v here) within) rest
      unfolding here within rest
      in_order = sym so_far ∙ ap (fold seen v) cells_here ∙ fold-append seen v here (within ++ rest) ∙ fold-append seen (fold seen v here) within rest

      -- what a visitor is that has seen its own cells and those inside it
      pub one_more : (own : WritingMode) (kind : Kind) (below : List Part) (v1 v2 : V) → own ≡ mode_inside mode kind → kind ≡ p.kind → parts_of below ≡ p.inner
          → v1 ≡ fold seen v (own_cells mode p.name.node p.rect p.kind) → v2 ≡ fold seen v1 (cells_in own (parts_of below))
          → fold seen v2 (cells_in mode (parts_of (drop (k + 1) ps))) ≡ all
      unfolding here within rest
      one_more own kind below v1 v2 own_is kind_is inner first second =
          let same : v2 ≡ fold seen (fold seen v here) within = second ∙ rw (own_is, kind_is, inner, first) (λ i. fold seen (fold seen v here) within) in
          ap (λ (u : V). fold seen u rest) same ∙ sym in_order

      -- and of one that doesn't look into its bound
      pub one_passed : (bound : Bound) → AreIn bound (before p none) → IgnoresAll seen v bound → fold seen v (cells_in mode (parts_of (drop (k + 1) ps))) ≡ all
      unfolding here within rest
      one_passed bound lies ignores =
          ap (λ (u : V). fold seen u rest) (part_unseen seen v bound ignores mode p lies) ∙ sym in_order
