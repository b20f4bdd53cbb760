-- A box on the way from its key to what it comes to: before its children are laid out, between, and after.
use Rattle.std.specs.Prelude.{◌≡◌, None}
use Rattle.box_arena.specs.At.{Slots, first_at, text_at}
use Rattle.box_arena.specs.Boxes.{StandFrom}
use Rattle.box_gen.specs.Tree.{Boxes}
use Rattle.para_prepare.specs.Preparation.{Preparation}
use Rattle.relayout.specs.declared.flowing.Begun.{Begun}
use Rattle.relayout.specs.declared.flowing.SizedBox.{SizedBox}
use Rattle.relayout.specs.declared.row.Row.{Row}
use Rattle.relayout.specs.declared.row.RowBox.{RowBox}
use Rattle.relayout.specs.Flow.{members}
use Rattle.relayout.specs.Inline.{Outside}
use Rattle.relayout.specs.Intrinsic.{IsTextOf}
use Rattle.relayout.specs.Kept.{AreRight}
use Rattle.relayout.specs.Reach.{IsBase, IsBounded, IsPageView}
use Rattle.relayout.specs.Row.{HasBox, HasRow, StandsIn, row_in}
use Rattle.relayout.specs.Sizes.{containing_of}
use Rattle.relayout.specs.Step.{IsInlineSize, contributing, inline_size_of, laid_inside, sizing_of, used_in}

-- a row can be laid out
pub record CanFlow (outside : Outside) (slots : Slots Preparation) (row : Row) : Type 0 where
  pub view : IsPageView outside.view
  pub sizes : IsBounded row.c
  pub boxes : HasRow slots row.from row.depth
  pub inside : StandsIn slots row.from row.containing
  pub right : AreRight outside slots

-- a box of it can
pub record CanFlowBox (outside : Outside) (slots : Slots Preparation) (own : RowBox) : Type 0 where
  pub view : IsPageView outside.view
  pub box : HasBox slots own
  pub right : AreRight outside slots

-- the text of its paragraph is there
pub record IsSeen (outside : Outside) (slots : Slots Preparation) (own : RowBox) : Type 0 where
  pub view : IsPageView outside.view
  pub box : HasBox slots own
  pub right : AreRight outside slots
  pub text : IsTextOf outside.faces box.node.style box.node.content (text_at slots own.key)

-- it is known how the box is sized, and on which of its children's contributions its inline size depends
pub record IsBegun (outside : Outside) (slots : Slots Preparation) (own : RowBox) (begun : Begun) : Type 0 where
  pub seen : IsSeen outside slots own
  pub sizing : begun.sizing ≡ sizing_of own.containing seen.box.node own.c
  pub handed : IsBase begun.sizing.handed
  pub definite : IsBase begun.sizing.definite
  pub row : begun.contributing ≡ row_in own begun.sizing (contributing begun.sizing.definite (first_at slots own.key)) None

-- its inline size is known, whatever tree stands inside it, and which of its children are put in it
pub record IsSized (outside : Outside) (slots : Slots Preparation) (own : RowBox) (sized : SizedBox) : Type 0 where
  pub seen : IsSeen outside slots own
  pub size : (inner : Boxes) → StandFrom slots (first_at slots own.key) inner
      → sized.size ≡ inline_size_of outside own.containing seen.box.node own.c (members outside (containing_of seen.box.node.style) inner)
  pub near : IsInlineSize sized.size
  pub row : sized.inside
      ≡ row_in own (sizing_of own.containing seen.box.node own.c) (laid_inside sized.size (first_at slots own.key)) (used_in sized.size)
