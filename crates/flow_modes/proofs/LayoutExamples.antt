-- A small tree of boxes laid out in each way, by computation, at numbers worked out by hand. Lengths are in units of 1/64 px.
use Rattle.std.specs.Prelude.{◌≡◌, ℕ, refl, false, [], ◌∷◌, ◌++◌, List, Option, Some, None, pos, neg_ℤ}
use Rattle.fragment_types.specs.declared.item.BoxName.{BoxName}
use Rattle.fragment_types.specs.Fragment.{Pieces, none, piece, block, line, run}
use Rattle.fragment_types.specs.Item as item
use Rattle.fragment_types.specs.declared.unit_kind.UnitKind.{UnitKind}
use Rattle.fragment_types.specs.declared.unit_kind.UnitKind.TheVariants.{Along, Turned}
use Rattle.style_types.specs.Initial.{initial}
use Rattle.style_types.specs.declared.style.Baseline.TheVariants.{Alphabetic}
use Rattle.style_types.specs.declared.style.Combine.TheVariants.{Never}
use Rattle.style_types.specs.declared.style.Display.TheVariants as displays
use Rattle.style_types.specs.declared.style.Size.TheVariants.{Auto, Length, Percent}
use Rattle.style_types.specs.declared.style.Style.{Style}
use Rattle.style_types.specs.declared.style.TextOrientation.TheVariants.{Mixed}
use Rattle.box_gen.specs.Tree.{Boxes, none as no_boxes, box, blocks, inline}
use Rattle.size_rules.specs.Equation.{or_zero, rest, start_margin}
use Rattle.para_lines.specs.Lines.{paragraph_lines}
use Rattle.para_lines.specs.Filling.{paragraph_sizes}
use Rattle.relayout.specs.Asks.{Pair, asks}
use Rattle.relayout.specs.Content.{filled, paragraph, stack}
use Rattle.relayout.specs.Boxed.{block_box, border_box, boxed, content_area, handed_on, measured}
use Rattle.relayout.specs.Flow.{asked, flow_step, laid_out, layout}
use Rattle.relayout.specs.Inline.{equation_of, inline_place, inline_size, known_size, shrunk}
use Rattle.relayout.specs.Intrinsic.{contribution, inner}
use Rattle.face_api.specs.Kinds.{mono_table}
use Rattle.face_api.specs.Living.{used_table}
use Rattle.face_api.specs.Table.{Table, advance_of}
use Rattle.place_map.specs.Placed as page
use Rattle.place_map.specs.Placed.{Parts, part}
use Rattle.place_map.specs.Placing.{place}
use Rattle.wm_units.specs.declared.view.View.{View}
use Rattle.wm_modes.specs.declared.rects.Rect.{Rect}
use Rattle.wm_modes.specs.declared.mode.Direction.TheVariants.{Ltr, Rtl}
use Rattle.wm_modes.specs.declared.mode.WritingMode.{WritingMode}
use Rattle.wm_modes.specs.declared.mode.WritingMode.TheVariants.{HorizontalTb, VerticalRl, SidewaysRl, SidewaysLr}
use Rattle.wm_chars.specs.Repertoire.{row_of, bidi_class, break_class, orientation}
use Rattle.wm_chars.specs.Pairs.{mirror, bracket}
use Rattle.cluster_units.specs.Cluster.{unit_clusters}
use Rattle.cluster_units.specs.Unit.{units_of}
use Rattle.bidi_explicit.specs.Explicit.{explicit_levels, explicit_classes}
use Rattle.bidi_explicit.specs.Sequences.{isolating_runs}
use Rattle.bidi_order.specs.Visual.{visual_order}
use Rattle.bidi_order.specs.Blanks.{reset}
use Rattle.bidi_order.specs.Reversals.{order}
use Rattle.bidi_resolve.specs.Paragraph.{paragraph_levels}
use Rattle.bidi_resolve.specs.Sequence.{weak, resolved, sequence_classes, sequence_levels}
use Rattle.line_place.specs.Leaves.{leaves}
use Rattle.line_place.specs.Marks.{marks as line_marks}
use Rattle.para_prepare.specs.BidiText.{bidi_texts}
use Rattle.para_prepare.specs.Boxes.{taking_part}
use Rattle.para_prepare.specs.Inside.{inside}
use Rattle.para_prepare.specs.Content.{parts}
use Rattle.para_prepare.specs.Preparation.{preparation}
use Rattle.para_prepare.specs.White.{marks}
use Rattle.para_lines.specs.Around.{box_at, chains}
use Rattle.para_lines.specs.Filling.{fill_items}
use Rattle.unicode_segmentation.proofs.Computing.{unicode_segmentation}
use Rattle.mode_ways.specs.Ways.{Way, down, left, right, boxes_in, plain}

abbrev faces : List (Option Table)
faces = Some mono_table ∷ []

abbrev view : View
view = record { inline = pos 6400; block = pos 3200 }

-- the layout of boxes in a way
unfoldable laid_out_in : Way → Boxes → Pieces
unfolding boxes_in flow_step asked measured laid_out boxed border_box content_area block_box handed_on contribution inner shrunk equation_of inline_size known_size inline_place stack paragraph filled paragraph_sizes paragraph_lines fill_items box_at chains leaves line_marks preparation parts marks taking_part bidi_texts inside visual_order reset order paragraph_levels explicit_levels explicit_classes isolating_runs weak resolved sequence_classes sequence_levels units_of unit_clusters advance_of used_table row_of bidi_class break_class orientation mirror bracket initial unicode_segmentation or_zero rest start_margin
laid_out_in way boxes = layout faces view.inline view.block (boxes_in way boxes)

abbrev name : (node : ℕ) → BoxName
name node = record { node = node; ordinal = 0 }

-- A box from right to left with unlike edges on all sides, which holds the text "ab": 64 before it and -32 behind it as blocks follow one another,
-- 10 % of the containing block at its line-right, and at its line-left a margin that is auto and a padding of 5 %.
abbrev unlike : Style
unlike = record initial {
  display = displays.Block;
  direction = Rtl;
  width = Length (pos 2560);
  margin = record { top = Length (pos 64); right = Percent (pos 1000); bottom = Length (neg_ℤ (pos 32)); left = Auto };
  padding = record { top = Length (pos 0); right = Length (pos 0); bottom = Length (pos 0); left = Percent (pos 500) };
  border = record { top = pos 1; right = pos 20; bottom = pos 3; left = pos 4 };
}

abbrev tree : Boxes
tree = box (name 0) (record initial { display = displays.FlowRoot }) blocks (box (name 1) unlike (inline (item.text 2 (97 ∷ 98 ∷ []) unlike ∷ [])) no_boxes no_boxes) no_boxes

-- Of 6400 the border box takes 320 for its padding, 24 for its borders and 2560, the margin at line-right 640, and the auto one 2856. The
-- text is 1024 wide, at the right of its line.
abbrev fragments : WritingMode → UnitKind → Pieces
fragments mode form =
    piece (name 0) (record { i = pos 0; b = pos 0; inline = pos 6400; block = pos 1060 })
    (block mode Ltr (record { i = pos 0; b = pos 0; inline = pos 6400; block = pos 1060 }) None (record { positive = pos 0; negative = pos 0 }) (record { positive = pos 0; negative = pos 0 }) false)
    (piece (name 1) (record { i = pos 2856; b = pos 64; inline = pos 2904; block = pos 1028 })
    (block mode Rtl (record { i = pos 324; b = pos 1; inline = pos 2560; block = pos 1024 }) None (record { positive = pos 64; negative = pos 0 }) (record { positive = pos 0; negative = neg_ℤ (pos 32) }) false)
    (piece (name 1) (record { i = pos 0; b = pos 0; inline = pos 2560; block = pos 1024 }) (line 0 (pos 768) mode Alphabetic)
    (piece (name 2) (record { i = pos 1536; b = pos 0; inline = pos 1024; block = pos 1024 })
    (run form 2 None (record { first = 0; end = 1; extent = pos 512; glyphs = (97 ∷ []) ∷ [] } ∷ record { first = 1; end = 2; extent = pos 512; glyphs = (98 ∷ []) ∷ [] } ∷ [])) none none)
    none) none) none

laid_out_across : laid_out_in plain tree ≡ fragments HorizontalTb Along
unfolding laid_out_in
laid_out_across = refl

laid_out_down : laid_out_in down tree ≡ fragments VerticalRl Turned
unfolding laid_out_in
laid_out_down = refl

laid_out_right : laid_out_in (right Mixed Never) tree ≡ fragments SidewaysRl Along
unfolding laid_out_in
laid_out_right = refl

laid_out_left : laid_out_in (left Mixed Never) tree ≡ fragments SidewaysLr Along
unfolding laid_out_in
laid_out_left = refl

-- ---- on the page

abbrev rect : (x y w h : ℕ) → Rect
rect x y w h = record { x = pos x; y = pos y; w = pos w; h = pos h }

abbrev rects_in : Parts → List Rect
rects_in page.none = []
rects_in (part name own kind inner next) = own ∷ (rects_in inner ++ rects_in next)

-- the root, the box, its line and the text, which begins at the right of the page, 4716 from its top
on_page_down : rects_in (place view (laid_out_in down tree)).parts ≡ rect 2140 0 1060 6400 ∷ rect 2108 2856 1028 2904 ∷ rect 2111 3180 1024 2560 ∷ rect 2111 4716 1024 1024 ∷ []
unfolding laid_out_in
on_page_down = refl

-- here blocks begin at the left, and lines at the bottom
on_page_left : rects_in (place view (laid_out_in (left Mixed Never) tree)).parts ≡ rect 0 0 1060 6400 ∷ rect 64 640 1028 2904 ∷ rect 65 660 1024 2560 ∷ rect 65 660 1024 1024 ∷ []
unfolding laid_out_in
on_page_left = refl

-- ---- what is asked for

unfoldable asks_in : Way → Boxes → List Pair
unfolding boxes_in flow_step asked measured laid_out boxed border_box content_area block_box handed_on contribution inner shrunk equation_of inline_size known_size inline_place stack paragraph filled paragraph_sizes paragraph_lines fill_items box_at chains leaves line_marks preparation parts marks taking_part bidi_texts inside visual_order reset order paragraph_levels explicit_levels explicit_classes isolating_runs weak resolved sequence_classes sequence_levels units_of unit_clusters advance_of used_table row_of bidi_class break_class orientation mirror bracket initial unicode_segmentation or_zero rest start_margin
asks_in way boxes = asks faces view (boxes_in way boxes)

-- each box once: the root under the view's sizes, the box in it under the root's inline size
asked_down : asks_in down tree ≡ record { name = name 0; constraint = record { inline = Some (pos 6400); block = Some (pos 3200) } } ∷ record { name = name 1; constraint = record { inline = Some (pos 6400); block = None } } ∷ []
unfolding asks_in
asked_down = refl
