-- Children as their container stacks them, with whole lists of margins. CSS 2, 8.3.1.
use Rattle.std.specs.Prelude.{◌≡◌, ℕ, ◌+◌, Bool, List, ℤ, unsigned_abs}
use Rattle.std.specs.List.{AllZip}
use Rattle.margin_collapse.specs.Pairs.{IsPairOf}
use Rattle.margin_collapse.specs.declared.margins.Margins.{Margins}
use Rattle.block_flow.specs.declared.boxes.ChildBox.{ChildBox}

-- a child: the block size of its border box, the margins that adjoin its start and its end, and whether
-- these adjoin one another, so that it is collapsed through
pub record Child : Type 0 where
  pub size : ℤ
  pub start_margins : List ℤ
  pub end_margins : List ℤ
  pub through : Bool

-- a child's pairs stand for its lists
pub record StandsFor (box : ChildBox) (child : Child) : Type 0 where
  pub size : box.size ≡ child.size
  pub start : IsPairOf box.start child.start_margins
  pub end_ : IsPairOf box.end child.end_margins
  pub through : box.through ≡ child.through

-- so do those of all children, one by one
abbrev pub AreChildren : List ChildBox → List Child → Type 0
AreChildren boxes children = AllZip StandsFor boxes children

-- the lengths of a pair of margins, without their signs
abbrev pub margin_lengths : Margins → ℕ
margin_lengths pair = unsigned_abs pair.positive + unsigned_abs pair.negative

-- the lengths that a child brings to a stack, without their signs
abbrev pub lengths_of : ChildBox → ℕ
lengths_of box = unsigned_abs box.size + (margin_lengths box.start + margin_lengths box.end)
