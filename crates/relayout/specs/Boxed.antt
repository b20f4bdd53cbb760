-- A box from what is inside it: its sizes, its margins that adjoin others, its fragment. CSS 2, 8.3.1, 10.3, 10.6 and 10.7.
use Rattle.std.specs.Prelude.{ℕ, zero, suc, Bool, true, false, cond, List, [], ◌∷◌, Option, None, unwrap_or, ℤ, pos, ◌+ℤ◌}
use Rattle.wm_modes.specs.declared.rects.FlowRect.{FlowRect}
use Rattle.wm_modes.specs.declared.sides.FlowSide.{FlowSide}
use Rattle.wm_modes.specs.declared.sides.FlowSide.TheVariants.{BlockStart, InlineStart, LineLeft, LineOver}
use Rattle.wm_modes.specs.declared.sides.Side.{Side}
use Rattle.wm_modes.specs.Sides.{block_start, opposite, side_of}
use Rattle.fragment_types.specs.declared.constraint.Constraint.{Constraint}
use Rattle.style_types.specs.declared.style.Style.{Style}
use Rattle.fragment_types.specs.Fragment.{none, block, measure}
use Rattle.block_flow.specs.declared.adjoining.BlockBox.{BlockBox}
use Rattle.block_flow.specs.declared.adjoining.Edge.{Edge}
use Rattle.block_flow.specs.Adjoining.{is_through}
use Rattle.box_arena.specs.At.{Node}
use Rattle.line_fill.specs.declared.item.Intrinsic.{Intrinsic}
use Rattle.para_lines.specs.Edges.{width_on}
use Rattle.para_prepare.specs.Parts.{used_direction}
use Rattle.relayout.specs.declared.sizes.Containing.{Containing}
use Rattle.relayout.specs.Content.{Filled}
use Rattle.relayout.specs.Edges.{inner_edge, inner_edges_across, inner_edges_along, margin_or_zero, margins_along, padding}
use Rattle.relayout.specs.Flowed.{Flowed, pair_of}
use Rattle.relayout.specs.Sizes.{block_sizes, definite, hold, is_atom, is_flow_root, is_parallel}

-- an anonymous block is passed over: what its children's percentages refer to is what its own would
abbrev pub handed_by : (ordinal : ℕ) → (outer definite : Option ℤ) → Option ℤ
handed_by zero outer definite = definite
handed_by (suc _) outer definite = outer

-- the block size that percentages of its children refer to
unfoldable pub handed_on : Containing → Node → Constraint → Option ℤ
handed_on containing node c = handed_by node.name.ordinal c.block (definite containing node.style c)

-- ---- under an inline size that isn't known: a box whose content area has these min-content and max-content sizes

abbrev pub around : Containing → Style → ℤ
around containing style = margins_along style None containing.mode +ℤ inner_edges_along style None containing.mode

unfoldable pub measured : Containing → Node → (content : Intrinsic) → Flowed
measured containing node content =
    record {
      part = record {
        name = node.name;
        rect = record { i = pos 0; b = pos 0; inline = pos 0; block = pos 0 };
        kind = measure (content.min +ℤ around containing node.style) (content.max +ℤ around containing node.style);
        inner = none;
      };
      starts = [];
      ends = [];
      through = false;
    }

-- ---- else: its sizes, its content, its margins

abbrev pub edge_at : Style → (inline : Option ℤ) → Side → Edge
edge_at style inline side = record { border = width_on style.border side; padding = padding style inline side }

-- what decides which of its margins adjoin
unfoldable pub block_box : Containing → Style → Constraint → (lines : Bool) → BlockBox
block_box containing style c lines = record {
  is_flow_root = is_flow_root style.display;
  start = edge_at style c.inline (block_start style.mode);
  end = edge_at style c.inline (opposite (block_start style.mode));
  size = definite containing style c;
  min = (block_sizes containing style c).min;
  has_lines = lines;
}

-- own sizes on the axes of the containing block
abbrev pub turned : (parallel : Bool) → (i b along across : ℤ) → FlowRect
turned true i b along across = record { i = i; b = b; inline = along; block = across }
turned false i b along across = record { i = i; b = b; inline = across; block = along }

abbrev pub border_along : Style → Constraint → (size : ℤ) → ℤ
border_along style c size = size +ℤ inner_edges_along style c.inline style.mode

abbrev pub border_across : Style → Constraint → (extent : ℤ) → ℤ
border_across style c extent = extent +ℤ inner_edges_across style c.inline style.mode

unfoldable pub border_box : Containing → Style → Constraint → (size extent : ℤ) → FlowRect
border_box containing style c size extent =
    turned (is_parallel containing style) (pos 0) (pos 0) (border_along style c size) (border_across style c extent)

-- the content area is told from the inline-start and block-start edges of the border box, that of an inline-block from line-left and line-over
abbrev pub near_inline : (atom : Bool) → FlowSide
near_inline true = LineLeft
near_inline false = InlineStart

abbrev pub near_block : (atom : Bool) → FlowSide
near_block true = LineOver
near_block false = BlockStart

-- border and padding on a side of the containing block
abbrev pub edge_on : Containing → Style → Constraint → FlowSide → ℤ
edge_on containing style c side = inner_edge style c.inline (side_of containing.mode containing.dir side)

unfoldable pub content_area : Containing → Style → Constraint → (size extent : ℤ) → FlowRect
content_area containing style c size extent =
    let atom = is_atom style.display in
    turned (is_parallel containing style) (edge_on containing style c (near_inline atom)) (edge_on containing style c (near_block atom)) size extent

-- the block size of a box whose content has this extent
abbrev pub block_size : Containing → Style → Constraint → (extent : ℤ) → ℤ
block_size containing style c extent = unwrap_or (definite containing style c) (hold (block_sizes containing style c) extent)

-- the margins that adjoin its start and its end, with those of its content; those of one that collapses through adjoin its start
abbrev pub starts_with : Containing → Style → Constraint → (starts : List ℤ) → List ℤ
starts_with containing style c starts = margin_or_zero style c.inline (block_start containing.mode) ∷ starts

abbrev pub ends_with : Containing → Style → Constraint → (through : Bool) → (ends : List ℤ) → List ℤ
ends_with containing style c through ends = margin_or_zero style c.inline (opposite (block_start containing.mode)) ∷ cond through [] ends

-- a box of this inline size and with this content
unfoldable pub boxed : Containing → Node → Constraint → (size : ℤ) → Filled → Flowed
boxed containing node c size content =
    let extent = block_size containing node.style c content.extent in
    let through = is_through (block_box containing node.style c content.lines) content.through in
    let starts = starts_with containing node.style c content.starts in
    let ends = ends_with containing node.style c through content.ends in
    record {
      part = record {
        name = node.name;
        rect = border_box containing node.style c size extent;
        kind = block node.style.mode (used_direction node.style) (content_area containing node.style c size extent)
            (handed_on containing node c) (pair_of starts) (pair_of ends) through;
        inner = content.parts;
      };
      starts = starts;
      ends = ends;
      through = through;
    }
