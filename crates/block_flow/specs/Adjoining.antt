-- Which margins adjoin. CSS 2, 8.3.1 has four cases: the start of a box and its first child's start, the end of a child
-- and the next one's start, the end of a last child and its container's end, and the start and the end of a box. The
-- second always holds among the children of a container; the others hang on the box.
use Rattle.std.specs.Prelude.{Bool, true, false, ◌&&◌, not, ℤ, pos, Option, Some, None}
use Rattle.std.specs.Ordering.{int_eq}
use Rattle.block_flow.specs.declared.adjoining.BlockBox.{BlockBox}
use Rattle.block_flow.specs.declared.adjoining.Edge.{Edge}
use Rattle.block_flow.specs.declared.boxes.ParentEdges.{ParentEdges}

abbrev pub is_zero : ℤ → Bool
is_zero length = int_eq length (pos 0)

-- neither border nor padding stands between the margins
abbrev pub is_open : Edge → Bool
is_open edge = is_zero edge.border && is_zero edge.padding

abbrev pub is_auto : Option ℤ → Bool
is_auto None = true
is_auto (Some size) = false

abbrev pub is_auto_or_zero : Option ℤ → Bool
is_auto_or_zero None = true
is_auto_or_zero (Some size) = is_zero size

-- the block size is that of the contents
abbrev pub is_as_contents : BlockBox → Bool
is_as_contents box = is_auto box.size && is_zero box.min

-- nothing but the contents can give it a block size
abbrev pub is_flat : BlockBox → Bool
is_flat box = is_auto_or_zero box.size && is_zero box.min

-- its start adjoins its first child's start, its end its last child's end
abbrev pub edges : BlockBox → ParentEdges
edges box = record {
  start_joins = not box.is_flow_root && is_open box.start;
  end_joins = (not box.is_flow_root && is_open box.end) && is_as_contents box;
}

-- its own start and end adjoin
abbrev pub is_through : BlockBox → (children_are : Bool) → Bool
is_through box children_are =
    ((((not box.is_flow_root && is_open box.start) && is_open box.end) && not box.has_lines) && is_flat box) && children_are
