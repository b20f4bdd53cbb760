-- The boxes of a page, found one after the other.
use Rattle.std.proofs.Common.{◌≡◌, refl, sym, ap, ◌∙◌, ℕ, ◌+◌, ◌<◌, List, length, drop, get_or, Option, Some, None}
use Rattle.std.specs.Option.{option_or}
use Rattle.wm_modes.specs.declared.mode.WritingMode.{WritingMode}
use Rattle.place_map.specs.Parts.{Part, parts_of}
use Rattle.place_map.proofs.PartLists.{item_here}
use Rattle.rel_shift.specs.Boxes.{box_in, mode_inside, own_box_of}
use Rattle.rel_shift.specs.declared.containing.Containing.{Containing}

or_more : (a b c d : Option Containing) → option_or (option_or a (option_or b c)) d ≡ option_or a (option_or b (option_or c d))
or_more (Some x) b c d = refl
or_more None (Some x) c d = refl
or_more None None c d = refl

module _ (ps : List Part) (k : ℕ) (p : Part) (lt : k < length ps) (is : p ≡ get_or ps k p) where
  -- its own box, and those inside it, come before those behind it
  pub one_more : (mode own : WritingMode) (below : List Part) → own ≡ mode_inside mode p.kind → parts_of below ≡ p.inner
      → (node : ℕ) (f f1 f2 all : Option Containing) → option_or (box_in mode node (parts_of (drop k ps))) f ≡ all
      → f1 ≡ option_or (own_box_of node mode p.name p.kind) f
      → f2 ≡ option_or (box_in own node (parts_of below)) f1 → option_or (box_in mode node (parts_of (drop (k + 1) ps))) f2 ≡ all
  one_more mode own below within inner node f f1 f2 all so_far first second =
      let others = box_in mode node (parts_of (drop (k + 1) ps)) in
      let mine = own_box_of node mode p.name p.kind in
      let inside = box_in (mode_inside mode p.kind) node p.inner in
      let opens : box_in mode node (parts_of (drop k ps)) ≡ option_or others (option_or inside mine) =
      ap (λ (l : List Part). box_in mode node (parts_of l)) (item_here ps k p lt is) in
      let deep : box_in own node (parts_of below) ≡ inside = rw (within, inner) refl in
      ap (option_or others) (second ∙ ap (λ (b : Option Containing). option_or b f1) deep ∙ ap (option_or inside) first)
      ∙ sym (or_more others inside mine f)
      ∙ sym (ap (λ (b : Option Containing). option_or b f) opens)
      ∙ so_far
