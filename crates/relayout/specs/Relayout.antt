-- The layout of a document whose boxes lie in an arena.
use Rattle.std.specs.Prelude.{◌≡◌, ℕ, ◌≤◌, ◌-◌, ◌^◌, List, Option, Some}
use Rattle.slab.specs.Slab.{Slab}
use Rattle.face_api.specs.Table.{Table}
use Rattle.wm_modes.specs.Mode.{is_horizontal}
use Rattle.wm_units.specs.declared.view.View.{View}
use Rattle.wm_modes.specs.Sides.{block_start}
use Rattle.style_types.specs.declared.style.Style.{Style}
use Rattle.fragment_types.specs.Fragment.{Pieces, none}
use Rattle.box_arena.specs.declared.entry.Entry.{Entry}
use Rattle.box_arena.specs.At.{Node, Slots, node_at}
use Rattle.box_arena.specs.Boxes.{Stands}
use Rattle.box_gen.specs.Tree.{Boxes, count, height}
use Rattle.para_prepare.specs.Preparation.{Preparation}
use Rattle.relayout.specs.declared.row.Row.{Row}
use Rattle.relayout.specs.Edges.{margin_or_zero}
use Rattle.relayout.specs.Fit.{AreFit, weight}
use Rattle.relayout.specs.Flow.{layout, on_page}
use Rattle.relayout.specs.Flowed.{Part, at}
use Rattle.relayout.specs.Inline.{inline_place}
use Rattle.relayout.specs.Kept.{AreRight}
use Rattle.relayout.specs.Reach.{IsBase}
use Rattle.relayout.specs.Row.{IsSteady}
use Rattle.relayout.specs.Sizes.{containing_of}
use Rattle.relayout.specs.Step.{under}

-- the sizes of a view
pub record IsView (view : View) : Type 0 where
  pub along : IsBase (Some view.inline)
  pub across : IsBase (Some view.block)

-- how many boxes stand one inside the other at most: two for each of 64 elements, since an anonymous block may stand around each, and two more
abbrev pub most_deep : ℕ
most_deep = 130

-- under this key stands a tree that can be laid out
pub record HasTree (slots : Slots Preparation) (root : ℕ) : Type 0 where
  pub tree : Boxes
  pub stands : Stands slots root tree
  pub low : height tree ≤ most_deep
  pub few : count tree ≤ 2 ^ 18
  pub light : weight tree ≤ 2 ^ 60 - 2 ^ 50
  pub fit : AreFit tree

-- the row of the root, which stands alone in the view
abbrev pub root_row : (root : ℕ) → Style → View → Row
root_row root style view = record { from = Some root; containing = containing_of style; c = under (Some view.inline) (Some view.block); depth = most_deep }

-- the root in the view, which has its mode and its direction
abbrev pub in_view : Style → View → Part → Pieces
in_view style view part =
    at (inline_place (containing_of style) view.inline style part.rect.inline) (margin_or_zero style (Some view.inline) (block_start style.mode)) part none

-- what is kept is right for the page of the box under a root
abbrev pub AreRightUnder : (faces : List (Option Table)) → View → Slots Preparation → (root : ℕ) → Type 0
AreRightUnder faces view slots root = (node : Node) → node_at slots root ≡ Some node → AreRight (on_page (is_horizontal node.style.mode) faces view.inline view.block) slots

-- the same boxes stand as before, and what is kept is right for the page of the box under the root
abbrev pub IsSteadyUnder : (faces : List (Option Table)) → View → (old new : Slab (Entry Preparation)) → (root : ℕ) → Type 0
IsSteadyUnder faces view old new root =
    (node : Node) → node_at old.slots root ≡ Some node → IsSteady (on_page (is_horizontal node.style.mode) faces view.inline view.block) old new

-- it is the layout of each tree that stands under the root
abbrev pub IsLayout : (faces : List (Option Table)) → View → Slots Preparation → (root : ℕ) → Pieces → Type 0
IsLayout faces view slots root made = (tree : Boxes) → Stands slots root tree → made ≡ layout faces view.inline view.block tree
