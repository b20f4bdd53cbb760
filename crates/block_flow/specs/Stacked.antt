-- What a stack tells of its children.
use Rattle.std.specs.Prelude.{◌≡◌, ℕ, ◌≤◌, Bool, List, ℤ, pos, ◌≤ℤ◌, unsigned_abs}
use Rattle.std.specs.List.{list_all, All}
use Rattle.margin_collapse.specs.Pairs.{IsPairOf}
use Rattle.margin_collapse.specs.declared.margins.Margins.{Margins}
use Rattle.block_flow.specs.declared.boxes.ParentEdges.{ParentEdges}
use Rattle.block_flow.specs.Children.{Child, margin_lengths}
use Rattle.block_flow.specs.Stacking.{stacked, places_of, handed, extent}

-- where the children stand; their extent; their margins that adjoin the container's start, and those that
-- are handed outwards at its end; and whether all children are collapsed through
pub record Stacked : Type 0 where
  pub places : List ℤ
  pub extent : ℤ
  pub start : Margins
  pub end_ : Margins
  pub through : Bool

-- it tells of these children in this container
pub record IsStackOf (parent : ParentEdges) (children : List Child) (stack : Stacked) : Type 0 where
  pub places_are : stack.places ≡ places_of parent.start_joins children
  pub extent_is : stack.extent ≡ extent parent.end_joins (stacked parent.start_joins children)
  pub start_is : IsPairOf stack.start (stacked parent.start_joins children).start_margins
  pub end_is : IsPairOf stack.end_ (handed parent.end_joins (stacked parent.start_joins children))
  pub through_is : stack.through ≡ list_all (λ child. child.through) children

-- no length that it tells is longer than this
pub record IsWithin (total : ℕ) (stack : Stacked) : Type 0 where
  pub places : All (λ place. unsigned_abs place ≤ total) stack.places
  pub extent_low : pos 0 ≤ℤ stack.extent
  pub extent_high : stack.extent ≤ℤ pos total
  pub start : margin_lengths stack.start ≤ total
  pub end_ : margin_lengths stack.end_ ≤ total
