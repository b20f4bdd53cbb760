-- A prepared paragraph as lines are told of it, item by item.
use Rattle.std.specs.Prelude.{ℕ, zero, suc, ◌+◌, ◌<◌, cond, List, [], ◌∷◌, All, drop, Option, Some, None, ℤ, pos, ◌+ℤ◌}
use Rattle.wm_modes.specs.declared.sides.FlowSide.TheVariants.{InlineStart, InlineEnd}
use Rattle.fragment_types.specs.Item.{Entry}
use Rattle.para_prepare.specs.Preparation.{Preparation}
use Rattle.para_prepare.specs.declared.item.PreparedItem.{PreparedItem}
use Rattle.para_lines.specs.declared.filling.BoxSide.{BoxSide}
use Rattle.para_lines.specs.declared.filling.BoxSide.TheVariants.{Start, End}
use Rattle.para_lines.specs.declared.prepared.PreparedLists as code
use Rattle.para_lines.specs.Around.{box_at}
use Rattle.para_lines.specs.Edges.{inline_edge}

abbrev pub preparation_of : code.PreparedLists → Preparation
preparation_of prepared = record {
  items = prepared.items.now;
  levels = prepared.levels.now;
  classes = prepared.classes.now;
  bases = prepared.bases.now;
  breaks = prepared.breaks.now;
}

-- items come from entries that there are
abbrev pub AreSources : (count : ℕ) → List PreparedItem → Type 0
AreSources count = All (λ item. item.source < count)

abbrev pub first_source : List PreparedItem → Option ℕ
first_source [] = None
first_source (item ∷ items) = Some item.source

-- what the item before one comes from, and the item behind it
abbrev pub source_before : List PreparedItem → (place : ℕ) → Option ℕ
source_before items zero = None
source_before items (suc place) = first_source (drop place items)

abbrev pub source_behind : List PreparedItem → (place : ℕ) → Option ℕ
source_behind items place = first_source (drop (place + 1) items)

-- the edge of a box on one side, where it has one there
abbrev pub edge_of : (inline : Option ℤ) → List Entry → BoxSide → (box : ℕ) → ℤ
edge_of inline entries Start box = cond (box_at entries box).opens (inline_edge inline (box_at entries box).style InlineStart) (pos 0)
edge_of inline entries End box = cond (box_at entries box).closes (inline_edge inline (box_at entries box).style InlineEnd) (pos 0)

abbrev pub edges_of : (inline : Option ℤ) → List Entry → BoxSide → (boxes : List ℕ) → ℤ
edges_of inline entries side [] = pos 0
edges_of inline entries side (box ∷ boxes) = edge_of inline entries side box +ℤ edges_of inline entries side boxes
