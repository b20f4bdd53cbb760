-- The laws at trees of boxes, whose numbers were worked out by hand.
use Rattle.std.proofs.Common.{◌≡◌, refl, arith, ℕ, true, false, List, [], ◌∷◌, Option, Some, None, ℤ, pos, ◌+ℤ◌, ◌≤ℤ◌}
use Rattle.std.proofs.lemmas.Int.{ints}
use Rattle.face_api.specs.Kinds.{mono_table, wide_table, first_table}
use Rattle.face_api.specs.Living.{used_table}
use Rattle.face_api.specs.Table.{Table, advance_of}
use Rattle.wm_chars.specs.Repertoire.{row_of, bidi_class, break_class, orientation}
use Rattle.wm_chars.specs.Pairs.{mirror, bracket}
use Rattle.wm_modes.specs.declared.mode.Direction.TheVariants as directions
use Rattle.wm_modes.specs.declared.mode.WritingMode.TheVariants as modes
use Rattle.style_types.specs.declared.style.Display.TheVariants as displays
use Rattle.style_types.specs.declared.style.Size.TheVariants as sizes
use Rattle.style_types.specs.declared.style.Style.{Style}
use Rattle.style_types.specs.Initial.{initial}
use Rattle.style_types.specs.Tree as styled
use Rattle.style_types.specs.Tree.{Nodes}
use Rattle.fragment_types.specs.Item as item
use Rattle.fragment_types.specs.Item.{Entry}
use Rattle.style_types.specs.Style.{IsBounded}
use Rattle.cluster_units.specs.Cluster.{unit_clusters}
use Rattle.cluster_units.specs.Unit.{units_of}
use Rattle.bidi_explicit.specs.Explicit.{explicit_levels, explicit_classes}
use Rattle.bidi_explicit.specs.Sequences.{isolating_runs}
use Rattle.bidi_order.specs.Visual.{visual_order}
use Rattle.bidi_order.specs.Blanks.{reset}
use Rattle.bidi_order.specs.Reversals.{order}
use Rattle.bidi_resolve.specs.Paragraph.{paragraph_levels}
use Rattle.bidi_resolve.specs.Sequence.{weak, resolved, sequence_classes, sequence_levels}
use Rattle.line_place.specs.Leaves.{leaves}
use Rattle.line_place.specs.Marks.{marks as line_marks}
use Rattle.para_prepare.specs.BidiText.{bidi_texts}
use Rattle.para_prepare.specs.Boxes.{taking_part}
use Rattle.para_prepare.specs.Inside.{inside as inside_boxes}
use Rattle.para_prepare.specs.Content.{parts}
use Rattle.para_prepare.specs.Preparation.{preparation}
use Rattle.para_prepare.specs.White.{marks}
use Rattle.para_lines.specs.Around.{box_at, chains}
use Rattle.para_lines.specs.Filling.{fill_items}
use Rattle.para_lines.specs.Lines.{paragraph_lines}
use Rattle.unicode_segmentation.proofs.Computing.{unicode_segmentation}
use Rattle.size_rules.specs.Equation.{or_zero, rest, start_margin}
use Rattle.fragment_types.specs.Fragment.{Kind, block, none, piece, Pieces}
use Rattle.box_arena.specs.At.{Node}
use Rattle.box_gen.specs.Boxes.{root_boxes}
use Rattle.box_gen.specs.Tree.{Boxes, none as no_boxes, box, blocks, inline}
use Rattle.relayout.specs.Boxed.{block_box, border_box, boxed, content_area, handed_on, measured}
use Rattle.relayout.specs.Content.{filled, paragraph, stack}
use Rattle.relayout.specs.Flow.{asked, flow_step, laid_out, layout, members}
use Rattle.relayout.specs.Inline.{equation_of, inline_place, inline_size, known_size, shrunk, Outside}
use Rattle.relayout.specs.Intrinsic.{contribution, inner}
use Rattle.relayout.specs.Flowed.{Flowed}
use Rattle.relayout.specs.Sizes.{containing_of}
use Rattle.fragment_types.specs.declared.constraint.Constraint.{Constraint}
use Rattle.wm_modes.specs.declared.rects.FlowRect.{FlowRect}
use Rattle.flow_laws.proofs.AtomLaws.{inline_blocks_are_moved_alone}
use Rattle.flow_laws.specs.Placing.{AreBoxesOf, come_to, given}
use Rattle.flow_laws.specs.Constraint.{Met, behind, comes_to, fragment_on, here, inside, outside_of}
use Rattle.flow_laws.specs.Margins.{FillsInline}
use Rattle.flow_laws.specs.Standing.{AreLinesInside, StandBetween}
use Rattle.flow_laws.specs.Static.{static_nodes}
use Rattle.flow_laws.proofs.ConstraintLaws.{same_box_same_fragment}
use Rattle.flow_laws.proofs.MarginLaws.{fills_containing_block}
use Rattle.flow_laws.proofs.StandingLaws.{content_stands_inside, lines_stand_inside}
use Rattle.flow_laws.proofs.StaticLaws.{flows_are_of_static_nodes}

abbrev no_faces : List (Option Table)
no_faces = []

abbrev plain : Style
plain = record initial { display = displays.Block }

-- a box 640 high with one inside it that is half as wide as it
abbrev leaf : Boxes → Boxes
leaf next =
    box (record { node = 7; ordinal = 0 }) (record plain { height = sizes.Length (pos 640) }) blocks
    (box (record { node = 8; ordinal = 0 }) (record plain { width = sizes.Percent (pos 5000) }) blocks no_boxes no_boxes) next

-- it stands first in a box of a given size
abbrev one : Boxes
one = box (record { node = 0; ordinal = 0 }) (record plain { display = displays.FlowRoot }) blocks
    (box (record { node = 1; ordinal = 0 }) (record plain { width = sizes.Length (pos 6400) }) blocks (leaf no_boxes) no_boxes) no_boxes

-- it stands behind another in a box that has left so much between its margins
abbrev other : Boxes
other = box (record { node = 0; ordinal = 0 }) (record plain { display = displays.FlowRoot }) blocks
    (box (record { node = 2; ordinal = 0 }) (record plain { height = sizes.Length (pos 64) }) blocks no_boxes
    (box (record { node = 3; ordinal = 0 }) (record plain { margin = record { top = sizes.Auto; right = sizes.Length (pos 3200); bottom = sizes.Auto; left = sizes.Length (pos 3200) } }) blocks
    (box (record { node = 4; ordinal = 0 }) plain blocks no_boxes (leaf no_boxes)) no_boxes)) no_boxes

-- the two boxes in which it stands have the same inline size, and no definite block size
abbrev met : Met
met = record {
  mode = modes.HorizontalTb;
  dir = directions.Ltr;
  constraint = record { inline = Some (pos 6400); block = None };
  node = record { name = record { node = 7; ordinal = 0 }; style = record plain { height = sizes.Length (pos 640) }; content = blocks };
  inner = box (record { node = 8; ordinal = 0 }) (record plain { width = sizes.Percent (pos 5000) }) blocks no_boxes no_boxes;
}

-- so it has the same fragment, the box inside it too
same_leaf : fragment_on (layout no_faces (pos 12800) (pos 9600) one) (inside (inside here)) ≡ fragment_on (layout no_faces (pos 12800) (pos 9600) other) (inside (behind (inside (behind here))))
unfolding flow_step asked measured laid_out boxed border_box content_area block_box handed_on contribution inner shrunk equation_of inline_size known_size inline_place stack filled initial or_zero rest start_margin
same_leaf = same_box_same_fragment no_faces (pos 12800) (pos 9600) (pos 12800) (pos 9600) one other (inside (inside here)) (inside (behind (inside (behind here)))) met refl refl refl

-- which is 640 high
high_leaf : (comes_to (outside_of no_faces (pos 12800) (pos 9600) one) met).part.rect ≡ record { i = pos 0; b = pos 0; inline = pos 6400; block = pos 640 }
unfolding flow_step asked measured laid_out boxed border_box content_area block_box handed_on contribution inner shrunk equation_of inline_size known_size inline_place stack filled initial or_zero rest start_margin
high_leaf = refl

-- ---- margins that are all given: the inline-end one gives way, at the left where the containing block goes from right to left

abbrev from_right : Style
from_right = record plain { direction = directions.Rtl }

abbrev narrow : Node
narrow = record { name = record { node = 1; ordinal = 0 }; style = record plain { width = sizes.Length (pos 6400); margin = record { top = sizes.Auto; right = sizes.Length (pos 200); bottom = sizes.Auto; left = sizes.Length (pos 100) } }; content = blocks }

narrow_fills : FillsInline from_right narrow.style (pos 12800) (pos 6400)
unfolding flow_step asked measured laid_out boxed border_box content_area block_box handed_on contribution inner shrunk equation_of inline_size known_size inline_place stack filled initial or_zero rest start_margin
narrow_fills = fills_containing_block (outside_of no_faces (pos 12800) (pos 9600) one) from_right narrow [] (pos 12800) None refl

narrow_sum : pos 200 +ℤ pos 6400 +ℤ pos 6200 ≡ pos 12800
unfolding equation_of inline_place initial or_zero rest start_margin
narrow_sum = narrow_fills.whole

narrow_start : (margin : ℤ) → Some (pos 200) ≡ Some margin → pos 200 ≡ margin
unfolding equation_of inline_place initial or_zero rest start_margin
narrow_start = narrow_fills.margins.start_given

-- ---- children with margins: 128 between the first and the second, and the margin behind the last is inside a flow root

abbrev apart : (node : ℕ) → (height : ℤ) → Boxes → Boxes
apart node height next =
    box (record { node = node; ordinal = 0 }) (record plain { height = sizes.Length height; margin = record { top = sizes.Length (pos 128); right = sizes.Auto; bottom = sizes.Length (pos 64); left = sizes.Auto } }) blocks no_boxes next

abbrev root : Style
root = record plain { display = displays.FlowRoot }

abbrev box_kind : (height : ℤ) → Kind
box_kind height = block modes.HorizontalTb directions.Ltr (record { i = pos 0; b = pos 0; inline = pos 12800; block = height }) (Some height) (record { positive = pos 128; negative = pos 0 }) (record { positive = pos 64; negative = pos 0 }) false

up : (height : ℕ) → pos 0 ≤ℤ pos height
up height = omega (arith, ints)

stands : StandBetween (pos 0) (pos 1280)
    (piece (record { node = 1; ordinal = 0 }) (record { i = pos 0; b = pos 128; inline = pos 12800; block = pos 640 }) (box_kind (pos 640)) none
    (piece (record { node = 2; ordinal = 0 }) (record { i = pos 0; b = pos 896; inline = pos 12800; block = pos 320 }) (box_kind (pos 320)) none none))
unfolding flow_step asked measured laid_out boxed border_box content_area block_box handed_on contribution inner shrunk equation_of inline_size known_size inline_place stack filled initial or_zero rest start_margin
stands = content_stands_inside (outside_of no_faces (pos 12800) (pos 9600) one) plain (record { node = 0; ordinal = 0 }) root blocks
    (apart 1 (pos 640) (apart 2 (pos 320) no_boxes)) (record { inline = Some (pos 12800); block = None }) refl
    ((up 640, refl, refl), ((up 320, refl, refl), tt))

-- ---- lines: each as high as the line height, one line 1024 high

abbrev faces : List (Option Table)
faces = Some mono_table ∷ Some wide_table ∷ Some first_table ∷ []

abbrev text : List Entry
text = item.text 1 (97 ∷ 98 ∷ []) plain ∷ []

bounded : IsBounded plain
unfolding initial
bounded = record {
  combine = tt;
  font_size_low = omega (arith, ints);
  font_size_high = omega (arith, ints);
  face = omega arith;
  line_height = tt;
  shift = omega (arith, ints);
  width = tt;
  height = tt;
  min_width = tt;
  min_height = tt;
  max_width = tt;
  max_height = tt;
  margin = record { top = omega (arith, ints); right = omega (arith, ints); bottom = omega (arith, ints); left = omega (arith, ints) };
  padding = record { top = (omega (arith, ints), omega (arith, ints)); right = (omega (arith, ints), omega (arith, ints)); bottom = (omega (arith, ints), omega (arith, ints)); left = (omega (arith, ints), omega (arith, ints)) };
  border = record { top = (omega (arith, ints), omega (arith, ints)); right = (omega (arith, ints), omega (arith, ints)); bottom = (omega (arith, ints), omega (arith, ints)); left = (omega (arith, ints), omega (arith, ints)) };
  insets = record { top = tt; right = tt; bottom = tt; left = tt };
}

high : AreLinesInside (pos 1024) (paragraph faces (record { node = 0; ordinal = 0 }) plain (pos 12800) text [])
unfolding initial used_table
high = lines_stand_inside faces (record { node = 0; ordinal = 0 }) plain (pos 12800) text [] bounded

one_line : (paragraph faces (record { node = 0; ordinal = 0 }) plain (pos 12800) text []).extent ≡ pos 1024
unfolding paragraph paragraph_lines fill_items box_at chains leaves line_marks preparation parts marks taking_part bidi_texts inside_boxes visual_order reset order paragraph_levels explicit_levels explicit_classes isolating_runs weak resolved sequence_classes sequence_levels units_of unit_clusters advance_of used_table row_of bidi_class break_class orientation mirror bracket initial unicode_segmentation
one_line = refl

-- ---- an inline-block on a line: 64 from the line's left, as large as it came

abbrev square : Boxes
square = box (record { node = 2; ordinal = 0 }) (record initial { display = displays.InlineBlock; width = sizes.Length (pos 640); height = sizes.Length (pos 320); margin = record { top = sizes.Auto; right = sizes.Auto; bottom = sizes.Auto; left = sizes.Length (pos 64) } }) blocks no_boxes no_boxes

abbrev holder : Node
holder = record { name = record { node = 1; ordinal = 0 }; style = plain; content = inline (item.atom (record { node = 2; ordinal = 0 }) ∷ []) }

abbrev page : Outside
page = record { faces = faces; view = record { across = pos 12800; down = pos 9600 } }

abbrev wide : Constraint
wide = record { inline = Some (pos 12800); block = None }

abbrev held : Flowed
held = flow_step page (containing_of plain) holder (members page (containing_of plain) square) wide

squares : AreBoxesOf (come_to (given page plain holder wide (members page (containing_of plain) square)) (members page (containing_of plain) square)) held.part.inner
unfolding initial
squares = inline_blocks_are_moved_alone page plain holder.name plain (item.atom (record { node = 2; ordinal = 0 }) ∷ []) square wide refl

abbrev rect_of : Pieces → FlowRect
rect_of none = record { i = pos 0; b = pos 0; inline = pos 0; block = pos 0 }
rect_of (piece name rect kind (piece n own k inner others) next) = own
rect_of (piece name rect kind none next) = rect

on_line : rect_of held.part.inner ≡ record { i = pos 64; b = pos 448; inline = pos 640; block = pos 320 }
unfolding flow_step asked measured laid_out boxed border_box content_area block_box handed_on contribution inner shrunk equation_of inline_size known_size inline_place stack filled initial or_zero rest start_margin paragraph paragraph_lines fill_items box_at chains leaves line_marks preparation parts marks taking_part bidi_texts inside_boxes visual_order reset order paragraph_levels explicit_levels explicit_classes isolating_runs weak resolved sequence_classes sequence_levels units_of unit_clusters advance_of used_table row_of bidi_class break_class orientation mirror bracket unicode_segmentation
on_line = refl

-- ---- a box that is moved by its insets: the flow is that of a document where it is static

abbrev moved : Style
moved = record plain { relative = true; insets = record { top = sizes.Length (pos 640); right = sizes.Auto; bottom = sizes.Auto; left = sizes.Percent (pos 1000) } }

abbrev document : Style → Nodes
document style = styled.node 0 styled.element plain (styled.node 1 styled.element style (styled.node 2 (styled.text (97 ∷ [])) style styled.none styled.none) styled.none) styled.none

one_flow : layout faces (pos 12800) (pos 9600) (root_boxes (document moved)) ≡ layout faces (pos 12800) (pos 9600) (root_boxes (document plain))
unfolding static_nodes initial
one_flow = flows_are_of_static_nodes faces (pos 12800) (pos 9600) (document moved) (document plain) refl
