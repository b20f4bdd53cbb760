-- Trees of boxes with their layout, by computation: rules of sizes and margins at numbers worked out by hand, border boxes in the order
-- of the tree; then whole trees of fragments. An independent implementation gives the same. Lengths are in units of 1/64 px.
use Rattle.std.specs.Prelude.{◌≡◌, ℕ, refl, true, false, [], ◌∷◌, ◌++◌, ◌+◌, ◌*◌, ◌^◌, List, Option, Some, None, pos, neg_ℤ}
use Rattle.fragment_types.specs.declared.item.BoxName.{BoxName}
use Rattle.fragment_types.specs.Fragment.{Kind, Pieces, none, piece, block, line, span, run, measure}
use Rattle.style_types.specs.declared.style.Display.TheVariants as displays
use Rattle.style_types.specs.declared.style.Size.{Size}
use Rattle.style_types.specs.declared.style.Size.TheVariants as sizes
use Rattle.style_types.specs.declared.style.SideSizes.{SideSizes}
use Rattle.style_types.specs.declared.style.Style.{Style}
use Rattle.box_gen.specs.Tree.{Boxes, none as no_boxes, box, blocks, inline}
use Rattle.size_rules.specs.Equation.{or_zero, rest, start_margin}
use Rattle.para_lines.specs.Lines.{paragraph_lines}
use Rattle.para_lines.specs.Filling.{paragraph_sizes}
use Rattle.relayout.specs.Content.{filled, paragraph, stack}
use Rattle.relayout.specs.Boxed.{block_box, border_box, boxed, content_area, handed_on, measured}
use Rattle.relayout.specs.Fit.{weight}
use Rattle.relayout.specs.Flow.{asked, flow_step, laid_out, layout}
use Rattle.relayout.specs.Inline.{equation_of, inline_place, inline_size, known_size, shrunk}
use Rattle.relayout.specs.Intrinsic.{contribution, inner}
use Rattle.face_api.specs.Kinds.{mono_table, wide_table, first_table}
use Rattle.face_api.specs.Living.{used_table}
use Rattle.face_api.specs.Table.{Table, advance_of}
use Rattle.wm_modes.specs.declared.rects.FlowRect.{FlowRect}
use Rattle.wm_modes.specs.declared.mode.Direction.TheVariants as directions
use Rattle.wm_modes.specs.declared.mode.WritingMode.TheVariants as modes
use Rattle.wm_chars.specs.Repertoire.{row_of, bidi_class, break_class, orientation}
use Rattle.wm_chars.specs.Pairs.{mirror, bracket}
use Rattle.style_types.specs.declared.style.Align.TheVariants as aligns
use Rattle.style_types.specs.declared.style.Baseline.TheVariants as bases
use Rattle.style_types.specs.declared.style.Combine.TheVariants as combines
use Rattle.style_types.specs.declared.style.TextOrientation.TheVariants as orientations
use Rattle.fragment_types.specs.declared.unit_kind.UnitKind.TheVariants as kinds
use Rattle.style_types.specs.Initial.{initial}
use Rattle.fragment_types.specs.Item as item
use Rattle.fragment_types.specs.Item.{begins, ends, atom}
use Rattle.cluster_units.specs.Cluster.{unit_clusters}
use Rattle.cluster_units.specs.Unit.{units_of}
use Rattle.bidi_explicit.specs.Explicit.{explicit_levels, explicit_classes}
use Rattle.bidi_explicit.specs.Sequences.{isolating_runs}
use Rattle.bidi_order.specs.Visual.{visual_order}
use Rattle.bidi_order.specs.Blanks.{reset}
use Rattle.bidi_order.specs.Reversals.{order}
use Rattle.bidi_resolve.specs.Paragraph.{paragraph_levels}
use Rattle.bidi_resolve.specs.Sequence.{weak, resolved, sequence_classes, sequence_levels}
use Rattle.line_place.specs.Leaves.{leaves}
use Rattle.line_place.specs.Marks.{marks as line_marks}
use Rattle.para_prepare.specs.BidiText.{bidi_texts}
use Rattle.para_prepare.specs.Boxes.{taking_part}
use Rattle.para_prepare.specs.Inside.{inside}
use Rattle.para_prepare.specs.Content.{parts}
use Rattle.para_prepare.specs.Preparation.{preparation}
use Rattle.para_prepare.specs.White.{marks}
use Rattle.para_lines.specs.Around.{box_at, chains}
use Rattle.para_lines.specs.Filling.{fill_items}
use Rattle.unicode_segmentation.proofs.Computing.{unicode_segmentation}

abbrev faces : List (Option Table)
faces = Some mono_table ∷ Some wide_table ∷ Some first_table ∷ []

-- the layout of a tree of boxes in a view of these sizes
unfoldable laid_out_in : (inline_size block_size : ℕ) → Boxes → Pieces
unfolding flow_step asked measured laid_out boxed border_box content_area block_box handed_on contribution inner shrunk equation_of inline_size known_size inline_place stack paragraph filled paragraph_sizes paragraph_lines fill_items box_at chains leaves line_marks preparation parts marks taking_part bidi_texts inside visual_order reset order paragraph_levels explicit_levels explicit_classes isolating_runs weak resolved sequence_classes sequence_levels units_of unit_clusters advance_of used_table row_of bidi_class break_class orientation mirror bracket initial unicode_segmentation or_zero rest start_margin
laid_out_in inline_size block_size boxes = layout faces (pos inline_size) (pos block_size) boxes

-- ---- the words of the rules

abbrev name : (node : ℕ) → BoxName
name node = record { node = node; ordinal = 0 }

abbrev anonymous : (node : ℕ) → BoxName
anonymous node = record { node = node; ordinal = 1 }

abbrev root_style : Style
root_style = record initial { display = displays.FlowRoot }

abbrev plain : Style
plain = record initial { display = displays.Block }

abbrev atom_style : Style
atom_style = record initial { display = displays.InlineBlock }

abbrev length : ℕ → Size
length units = sizes.Length (pos units)

abbrev below_zero : ℕ → Size
below_zero units = sizes.Length (neg_ℤ (pos units))

abbrev percent : ℕ → Size
percent percents = sizes.Percent (pos (percents * 100))

abbrev on : (top right bottom left : Size) → SideSizes
on top right bottom left = record { top = top; right = right; bottom = bottom; left = left }

abbrev rect : (i b inline_size block_size : ℕ) → FlowRect
rect i b inline_size block_size = record { i = pos i; b = pos b; inline = pos inline_size; block = pos block_size }

-- 512 is the advance of a letter; the least size of "ab cd" is 1024, and the greatest 2560; a line of text is 1024, of which 768 over
-- the baseline
abbrev ab : List ℕ
ab = 97 ∷ 98 ∷ []

abbrev ab_blank : List ℕ
ab_blank = 97 ∷ 98 ∷ 32 ∷ []

abbrev ab_cd : List ℕ
ab_cd = 97 ∷ 98 ∷ 32 ∷ 99 ∷ 100 ∷ []

-- a border box, if a box has it, before others
abbrev before : Kind → FlowRect → List FlowRect → List FlowRect
before (block mode dir content definite start end_ through) own others = own ∷ others
before (line index base mode baseline) own others = others
before span own others = others
before (run form level natural units) own others = others
before (measure min max) own others = others

abbrev border_boxes_in : Pieces → List FlowRect
border_boxes_in none = []
border_boxes_in (piece name own kind inner next) = before kind own (border_boxes_in inner ++ border_boxes_in next)

unfoldable border_boxes : (inline_size block_size : ℕ) → Boxes → List FlowRect
unfolding laid_out_in
border_boxes inline_size block_size boxes = border_boxes_in (laid_out_in inline_size block_size boxes)

-- ---- rules

-- A box as large as its content whose least size, 1024 of "ab", is above the greatest, 1536 of "ab " with 640 taken off by the margin of
-- the inline-block: the greatest wins over all that is available (CSS 2, 10.3.5).
greatest_size_wins_over_least : border_boxes 6400 3200
    (box (name 0) root_style (inline (atom (name 1) ∷ []))
    (box (name 1) atom_style (inline (item.text 2 ab_blank plain ∷ atom (name 3) ∷ []))
    (box (name 3) (record atom_style { width = length 0; margin = on (length 0) (length 0) (length 0) (below_zero 640) }) blocks no_boxes
    no_boxes)
    no_boxes) no_boxes)
    ≡ rect 0 0 6400 1024
    ∷ rect 0 0 896 1024
    ∷ rect 896 768 0 0
    ∷ []
unfolding border_boxes
greatest_size_wins_over_least = refl

-- A block size that is 0 once it is held: the box collapses through, so that 100, 300 and 250 are one margin (CSS 2, 8.3.1).
held_block_size_of_zero_collapses_through : border_boxes 6400 3200
    (box (name 0) root_style blocks
    (box (name 1) (record plain { height = length 640; max_height = length 0; margin = on (length 100) (length 0) (length 300) (length 0) }) blocks no_boxes
    (box (name 2) (record plain { height = length 200; margin = on (length 250) (length 0) (length 0) (length 0) }) blocks no_boxes
    no_boxes)) no_boxes)
    ≡ rect 0 0 6400 500
    ∷ rect 0 100 6400 0
    ∷ rect 0 300 6400 200
    ∷ []
unfolding border_boxes
held_block_size_of_zero_collapses_through = refl

-- The inline-block 3 has half of 1280 along its lines, since the anonymous block round it hands on its container's block size also
-- while that one is measured: its text makes two lines of 1024, and not one (CSS 2, 9.2.1.1 and 10.5).
anonymous_block_hands_on_while_measured : border_boxes 6400 3200
    (box (name 0) root_style (inline (atom (name 1) ∷ []))
    (box (name 1) (record atom_style { height = length 1280 }) blocks
    (box (anonymous 1) plain (inline (atom (name 2) ∷ []))
    (box (name 2) (record atom_style { mode = modes.VerticalRl; height = percent 50 }) (inline (item.text 3 ab_cd (record plain { mode = modes.VerticalRl }) ∷ [])) no_boxes
    no_boxes)
    (box (name 4) plain blocks no_boxes
    no_boxes))
    no_boxes) no_boxes)
    ≡ rect 0 0 6400 1280
    ∷ rect 0 0 2048 1280
    ∷ rect 0 0 2048 1024
    ∷ rect 0 128 2048 640
    ∷ rect 0 1024 2048 0
    ∷ []
unfolding border_boxes
anonymous_block_hands_on_while_measured = refl

-- A given size is held while a box is measured, and its minimum wins over its maximum: 640 asks for 300 (CSS 2, 10.4).
least_limit_wins_while_measured : border_boxes 6400 3200
    (box (name 0) root_style (inline (atom (name 1) ∷ []))
    (box (name 1) atom_style blocks
    (box (name 2) (record plain { width = length 640; min_width = length 300; max_width = length 200 }) blocks no_boxes
    no_boxes)
    no_boxes) no_boxes)
    ≡ rect 0 0 6400 1024
    ∷ rect 0 768 300 0
    ∷ rect 0 0 300 0
    ∷ []
unfolding border_boxes
least_limit_wins_while_measured = refl

-- The least size of a paragraph is by that of its inline-block, "ab" or "cd" of 1024, and not by its greatest of 2560 (CSS 2, 10.3.5).
least_size_by_least_sizes_of_inline_blocks : border_boxes 640 3200
    (box (name 0) root_style (inline (atom (name 1) ∷ []))
    (box (name 1) atom_style (inline (atom (name 2) ∷ []))
    (box (name 2) atom_style (inline (item.text 3 ab_cd plain ∷ [])) no_boxes
    no_boxes)
    no_boxes) no_boxes)
    ≡ rect 0 0 640 2048
    ∷ rect 0 0 1024 2048
    ∷ rect 0 0 1024 2048
    ∷ []
unfolding border_boxes
least_size_by_least_sizes_of_inline_blocks = refl

-- Half of an inline size that isn't known is 0 for a padding: the box is as wide as its text, 1024, of which the padding then takes 512
-- (CSS 2, 8.4).
percentage_of_padding_is_nothing_while_measured : border_boxes 6400 3200
    (box (name 0) root_style (inline (atom (name 1) ∷ []))
    (box (name 1) atom_style blocks
    (box (name 2) (record plain { padding = on (length 0) (length 0) (length 0) (percent 50) }) (inline (item.text 3 ab plain ∷ [])) no_boxes
    no_boxes)
    no_boxes) no_boxes)
    ≡ rect 0 0 6400 1024
    ∷ rect 0 0 1024 1024
    ∷ rect 0 0 1024 1024
    ∷ []
unfolding border_boxes
percentage_of_padding_is_nothing_while_measured = refl

-- Two auto margins share 51: the inline-start one takes 25, in both directions (CSS 2, 10.3.3).
auto_margins_have_halves : border_boxes 101 3200
    (box (name 0) root_style blocks
    (box (name 1) (record plain { width = length 50; margin = on (length 0) sizes.Auto (length 0) sizes.Auto }) blocks no_boxes
    (box (name 2) (record plain { direction = directions.Rtl }) blocks
    (box (name 3) (record plain { width = length 50; margin = on (length 0) sizes.Auto (length 0) sizes.Auto }) blocks no_boxes
    no_boxes)
    no_boxes)) no_boxes)
    ≡ rect 0 0 101 0
    ∷ rect 25 0 50 0
    ∷ rect 0 0 101 0
    ∷ rect 25 0 50 0
    ∷ []
unfolding border_boxes
auto_margins_have_halves = refl

-- Where margins and size are more than there is, auto margins are 0 and the inline-end one gives way (CSS 2, 10.3.3).
auto_margins_are_nothing_below_zero : border_boxes 100 3200
    (box (name 0) root_style blocks
    (box (name 1) (record plain { width = length 200; margin = on (length 0) sizes.Auto (length 0) sizes.Auto }) blocks no_boxes
    (box (name 2) (record plain { width = length 200; margin = on (length 0) sizes.Auto (length 0) (length 10) }) blocks no_boxes
    (box (name 3) (record plain { width = length 200; margin = on (length 0) (length 10) (length 0) sizes.Auto }) blocks no_boxes
    (box (name 4) (record plain { width = length 70; margin = on (length 0) (length 30) (length 0) (length 20) }) blocks no_boxes
    no_boxes)))) no_boxes)
    ≡ rect 0 0 100 0
    ∷ rect 0 0 200 0
    ∷ rect 10 0 200 0
    ∷ rect 0 0 200 0
    ∷ rect 20 0 70 0
    ∷ []
unfolding border_boxes
auto_margins_are_nothing_below_zero = refl

-- An orthogonal child asks for its block size, a line of 1024, with its borders, paddings and margins: 1024 + 7 + 11 + 100 + 300. The
-- other one stands in the middle of these 1442, as if 200 were its given size (CSS Writing Modes 4, 7.3.2).
orthogonal_child_asks_and_stands : border_boxes 6400 3200
    (box (name 0) root_style (inline (atom (name 1) ∷ []))
    (box (name 1) atom_style blocks
    (box (name 2) (record plain { mode = modes.VerticalRl; margin = on (length 0) (length 300) (length 0) (length 100); padding = on (length 0) (length 0) (length 0) (length 7); border = record { top = pos 0; right = pos 11; bottom = pos 0; left = pos 0 } }) (inline (item.text 3 ab (record plain { mode = modes.VerticalRl }) ∷ [])) no_boxes
    (box (name 4) (record plain { mode = modes.VerticalRl; width = length 200; height = length 30; margin = on (length 0) sizes.Auto (length 0) sizes.Auto }) blocks no_boxes
    no_boxes))
    no_boxes) no_boxes)
    ≡ rect 0 0 6400 1310
    ∷ rect 0 0 1442 1054
    ∷ rect 100 0 1042 1024
    ∷ rect 621 1024 200 30
    ∷ []
unfolding border_boxes
orthogonal_child_asks_and_stands = refl

-- A last child's end margin of 320 is handed on by a box of auto size, and kept inside by one with a minimum of 1 (CSS 2, 8.3.1).
end_adjoins_without_a_minimum : border_boxes 6400 3200
    (box (name 0) root_style blocks
    (box (name 1) plain blocks
    (box (name 2) (record plain { height = length 640; margin = on (length 0) (length 0) (length 320) (length 0) }) blocks no_boxes
    no_boxes)
    (box (name 3) (record plain { min_height = length 1 }) blocks
    (box (name 4) (record plain { height = length 640; margin = on (length 0) (length 0) (length 320) (length 0) }) blocks no_boxes
    no_boxes)
    (box (name 5) (record plain { height = length 10 }) blocks no_boxes
    no_boxes))) no_boxes)
    ≡ rect 0 0 6400 1930
    ∷ rect 0 0 6400 640
    ∷ rect 0 0 6400 640
    ∷ rect 0 960 6400 960
    ∷ rect 0 0 6400 640
    ∷ rect 0 1920 6400 10
    ∷ []
unfolding border_boxes
end_adjoins_without_a_minimum = refl

-- A block size is held by the maximum and then by the minimum, a given one and that of the content (CSS 2, 10.7).
least_limit_wins_for_block_sizes : border_boxes 6400 3200
    (box (name 0) root_style blocks
    (box (name 1) (record plain { height = length 640; min_height = length 300; max_height = length 100 }) blocks no_boxes
    (box (name 2) (record plain { min_height = length 300; max_height = length 100 }) blocks
    (box (name 3) (record plain { height = length 640 }) blocks no_boxes
    no_boxes)
    (box (name 4) (record plain { height = length 10 }) blocks no_boxes
    no_boxes))) no_boxes)
    ≡ rect 0 0 6400 610
    ∷ rect 0 0 6400 300
    ∷ rect 0 300 6400 300
    ∷ rect 0 0 6400 640
    ∷ rect 0 600 6400 10
    ∷ []
unfolding border_boxes
least_limit_wins_for_block_sizes = refl

-- An orthogonal box has what its containing block has on that axis where this is definite, else the view, less its own edges there: of
-- 1500 without 100 and of 2000 without 100, held between the 1024 of "ab" and the 2560 of "ab cd" (CSS Writing Modes 4, 7.3.1).
orthogonal_box_has_the_definite_size_or_the_view : border_boxes 6400 2000
    (box (name 0) root_style blocks
    (box (name 1) (record plain { height = length 1500 }) blocks
    (box (name 2) (record plain { mode = modes.VerticalRl; margin = on (length 60) (length 0) (length 40) (length 0) }) (inline (item.text 3 ab_cd (record plain { mode = modes.VerticalRl }) ∷ [])) no_boxes
    no_boxes)
    (box (name 4) plain blocks
    (box (name 5) (record plain { mode = modes.VerticalRl; margin = on (length 60) (length 0) (length 40) (length 0) }) (inline (item.text 6 ab_cd (record plain { mode = modes.VerticalRl }) ∷ [])) no_boxes
    no_boxes)
    no_boxes)) no_boxes)
    ≡ rect 0 0 6400 3560
    ∷ rect 0 60 6400 1500
    ∷ rect 0 0 2048 1400
    ∷ rect 0 1620 6400 1900
    ∷ rect 0 0 2048 1900
    ∷ []
unfolding border_boxes
orthogonal_box_has_the_definite_size_or_the_view = refl

-- Percentages of a size that isn't known: auto for a size, no maximum, a minimum of 0. The text asks for 1024, and of these the box has
-- a half, then not more than a tenth and not less than nine tenths, cut to whole units (CSS 2, 10.2 and 10.4).
percentages_are_nothing_while_measured : border_boxes 6400 3200
    (box (name 0) root_style (inline (atom (name 1) ∷ []))
    (box (name 1) atom_style blocks
    (box (name 2) (record plain { width = percent 50; min_width = percent 90; max_width = percent 10 }) (inline (item.text 3 ab plain ∷ [])) no_boxes
    no_boxes)
    no_boxes) no_boxes)
    ≡ rect 0 0 6400 1024
    ∷ rect 0 0 1024 1024
    ∷ rect 0 0 921 1024
    ∷ []
unfolding border_boxes
percentages_are_nothing_while_measured = refl

-- An auto size of 100 without 150 and 30 is 0, and the inline-end margin is what the others leave (CSS 2, 10.3.3 and 10.4).
no_size_is_below_zero : border_boxes 100 3200
    (box (name 0) root_style blocks
    (box (name 1) (record plain { margin = on (length 0) (length 30) (length 0) (length 150) }) blocks no_boxes
    no_boxes) no_boxes)
    ≡ rect 0 0 100 0
    ∷ rect 150 0 0 0
    ∷ []
unfolding border_boxes
no_size_is_below_zero = refl

-- Half of a block size that is held first: of 300 and not of 640. Half of an auto one is auto (CSS 2, 10.5).
percentages_are_of_the_held_block_size : border_boxes 6400 3200
    (box (name 0) root_style blocks
    (box (name 1) (record plain { height = length 640; max_height = length 300 }) blocks
    (box (name 2) (record plain { height = percent 50 }) blocks no_boxes
    no_boxes)
    (box (name 3) plain blocks
    (box (name 4) (record plain { height = percent 50 }) blocks no_boxes
    (box (name 5) (record plain { height = length 70 }) blocks no_boxes
    no_boxes))
    no_boxes)) no_boxes)
    ≡ rect 0 0 6400 370
    ∷ rect 0 0 6400 300
    ∷ rect 0 0 6400 150
    ∷ rect 0 300 6400 70
    ∷ rect 0 0 6400 0
    ∷ rect 0 0 6400 70
    ∷ []
unfolding border_boxes
percentages_are_of_the_held_block_size = refl

-- ---- how far boxes reach together at most

-- of paragraphs side by side the heaviest counts alone, which is the second of three here
abbrev three_paragraphs : Boxes
three_paragraphs =
    box (name 1) plain blocks
    (box (name 2) plain (inline (item.line_break 3 ∷ [])) no_boxes
    (box (name 4) plain (inline (item.text 5 (97 ∷ 98 ∷ []) plain ∷ item.line_break 6 ∷ [])) no_boxes
    (box (name 7) plain (inline (item.line_break 8 ∷ [])) no_boxes no_boxes)))
    no_boxes

the_heaviest_counts_alone : weight three_paragraphs ≡ 2 ^ 39 + (3 * 2 ^ 39 + (2 * (3 * 2 ^ 40) + 2 * 2 ^ 36))
the_heaviest_counts_alone = refl

-- ---- whole trees of fragments

-- An inline box with a break in it and negative margins behind an inline-block with a maximum, in vertical-rl.
inline_box_with_negative_margins : laid_out_in 8704 640 (box (record { node = 0; ordinal = 0 }) (record initial { display = displays.FlowRoot; mode = modes.VerticalRl }) blocks (box (record { node = 1; ordinal = 0 }) (record initial { display = displays.Block; mode = modes.VerticalRl }) (inline ((atom (record { node = 2; ordinal = 0 })) ∷ (begins 4 (record initial { mode = modes.VerticalRl; orientation = orientations.Sideways; height = (sizes.Length (pos 1280)); margin = (record { top = (sizes.Length (pos 192)); right = (sizes.Length (neg_ℤ (pos 128))); bottom = (sizes.Length (pos 192)); left = (sizes.Length (neg_ℤ (pos 128))) }) }) true) ∷ (item.text 5 (215 ∷ 144 ∷ 215 ∷ 145 ∷ 32 ∷ 99 ∷ []) (record initial { mode = modes.VerticalRl; orientation = orientations.Sideways; height = (sizes.Length (pos 1280)); margin = (record { top = (sizes.Length (pos 192)); right = (sizes.Length (neg_ℤ (pos 128))); bottom = (sizes.Length (pos 192)); left = (sizes.Length (neg_ℤ (pos 128))) }) })) ∷ (item.line_break 6) ∷ (ends 4 true) ∷ [])) (box (record { node = 2; ordinal = 0 }) (record initial { display = displays.InlineBlock; mode = modes.VerticalRl; font_size = (pos 640); max_height = (sizes.Length (pos 768)) }) (inline ((item.text 3 (97 ∷ 98 ∷ 32 ∷ 99 ∷ 32 ∷ 121 ∷ 32 ∷ 122 ∷ []) (record initial { display = displays.InlineBlock; mode = modes.VerticalRl; font_size = (pos 640); max_height = (sizes.Length (pos 768)) })) ∷ [])) no_boxes no_boxes) no_boxes) no_boxes) ≡ (piece (record { node = 0; ordinal = 0 }) (record { i = (pos 0); b = (pos 0); inline = (pos 8704); block = (pos 2752) }) (block modes.VerticalRl directions.Ltr (record { i = (pos 0); b = (pos 0); inline = (pos 8704); block = (pos 2752) }) None (record { positive = (pos 0); negative = (pos 0) }) (record { positive = (pos 0); negative = (pos 0) }) false) (piece (record { node = 1; ordinal = 0 }) (record { i = (pos 0); b = (pos 0); inline = (pos 8704); block = (pos 2752) }) (block modes.VerticalRl directions.Ltr (record { i = (pos 0); b = (pos 0); inline = (pos 8704); block = (pos 2752) }) None (record { positive = (pos 0); negative = (pos 0) }) (record { positive = (pos 0); negative = (pos 0) }) false) (piece (record { node = 1; ordinal = 0 }) (record { i = (pos 0); b = (pos 0); inline = (pos 8704); block = (pos 2752) }) (line 0 (pos 2240) modes.VerticalRl bases.Central) (piece (record { node = 2; ordinal = 0 }) (record { i = (pos 0); b = (pos 0); inline = (pos 768); block = (pos 2560) }) (block modes.VerticalRl directions.Ltr (record { i = (pos 0); b = (pos 0); inline = (pos 768); block = (pos 2560) }) None (record { positive = (pos 0); negative = (pos 0) }) (record { positive = (pos 0); negative = (pos 0) }) false) (piece (record { node = 2; ordinal = 0 }) (record { i = (pos 0); b = (pos 0); inline = (pos 768); block = (pos 640) }) (line 0 (pos 320) modes.VerticalRl bases.Central) (piece (record { node = 3; ordinal = 0 }) (record { i = (pos 0); b = (pos 0); inline = (pos 640); block = (pos 640) }) (run kinds.Turned 0 None (record { first = 0; end = 1; extent = (pos 320); glyphs = ((97 ∷ []) ∷ []) } ∷ record { first = 1; end = 2; extent = (pos 320); glyphs = ((98 ∷ []) ∷ []) } ∷ [])) none none) (piece (record { node = 2; ordinal = 0 }) (record { i = (pos 0); b = (pos 640); inline = (pos 768); block = (pos 640) }) (line 1 (pos 320) modes.VerticalRl bases.Central) (piece (record { node = 3; ordinal = 0 }) (record { i = (pos 0); b = (pos 0); inline = (pos 320); block = (pos 640) }) (run kinds.Turned 0 None (record { first = 3; end = 4; extent = (pos 320); glyphs = ((99 ∷ []) ∷ []) } ∷ [])) none none) (piece (record { node = 2; ordinal = 0 }) (record { i = (pos 0); b = (pos 1280); inline = (pos 768); block = (pos 640) }) (line 2 (pos 320) modes.VerticalRl bases.Central) (piece (record { node = 3; ordinal = 0 }) (record { i = (pos 0); b = (pos 0); inline = (pos 320); block = (pos 640) }) (run kinds.Turned 0 None (record { first = 5; end = 6; extent = (pos 320); glyphs = ((121 ∷ []) ∷ []) } ∷ [])) none none) (piece (record { node = 2; ordinal = 0 }) (record { i = (pos 0); b = (pos 1920); inline = (pos 768); block = (pos 640) }) (line 3 (pos 320) modes.VerticalRl bases.Central) (piece (record { node = 3; ordinal = 0 }) (record { i = (pos 0); b = (pos 0); inline = (pos 320); block = (pos 640) }) (run kinds.Turned 0 None (record { first = 7; end = 8; extent = (pos 320); glyphs = ((122 ∷ []) ∷ []) } ∷ [])) none none) none)))) (piece (record { node = 4; ordinal = 0 }) (record { i = (pos 960); b = (pos 1728); inline = (pos 2048); block = (pos 1024) }) span (piece (record { node = 5; ordinal = 0 }) (record { i = (pos 960); b = (pos 1728); inline = (pos 1024); block = (pos 1024) }) (run kinds.Turned 1 None (record { first = 1; end = 2; extent = (pos 512); glyphs = ((1489 ∷ []) ∷ []) } ∷ record { first = 0; end = 1; extent = (pos 512); glyphs = ((1488 ∷ []) ∷ []) } ∷ [])) none (piece (record { node = 5; ordinal = 0 }) (record { i = (pos 1984); b = (pos 1728); inline = (pos 1024); block = (pos 1024) }) (run kinds.Turned 0 None (record { first = 2; end = 3; extent = (pos 512); glyphs = ((32 ∷ []) ∷ []) } ∷ record { first = 3; end = 4; extent = (pos 512); glyphs = ((99 ∷ []) ∷ []) } ∷ [])) none none)) none)) none) none) none)
unfolding laid_out_in
inline_box_with_negative_margins = refl

-- An inline-block of sideways-lr with auto margins in a paragraph of vertical-rl whose margins are percentages.
inline_block_in_another_vertical_mode : laid_out_in 12800 6400 (box (record { node = 0; ordinal = 0 }) (record initial { display = displays.FlowRoot; mode = modes.VerticalRl }) blocks (box (record { node = 1; ordinal = 0 }) (record initial { display = displays.Block; mode = modes.VerticalRl }) blocks (box (record { node = 2; ordinal = 0 }) (record initial { display = displays.Block; mode = modes.VerticalRl; margin = (record { top = (sizes.Percent (pos 1000)); right = (sizes.Percent (pos 1000)); bottom = (sizes.Percent (pos 1000)); left = (sizes.Percent (pos 1000)) }) }) (inline ((item.text 3 (97 ∷ []) (record initial { display = displays.Block; mode = modes.VerticalRl; margin = (record { top = (sizes.Percent (pos 1000)); right = (sizes.Percent (pos 1000)); bottom = (sizes.Percent (pos 1000)); left = (sizes.Percent (pos 1000)) }) })) ∷ (atom (record { node = 4; ordinal = 0 })) ∷ (item.line_break 7) ∷ [])) (box (record { node = 4; ordinal = 0 }) (record initial { display = displays.InlineBlock; mode = modes.SidewaysLr; direction = directions.Rtl; width = (sizes.Percent (pos 5000)); margin = (record { top = sizes.Auto; right = (sizes.Length (pos 0)); bottom = sizes.Auto; left = (sizes.Length (pos 0)) }) }) (inline ((item.text 5 (227 ∷ 129 ∷ 130 ∷ 32 ∷ 98 ∷ []) (record initial { display = displays.InlineBlock; mode = modes.SidewaysLr; direction = directions.Rtl; width = (sizes.Percent (pos 5000)); margin = (record { top = sizes.Auto; right = (sizes.Length (pos 0)); bottom = sizes.Auto; left = (sizes.Length (pos 0)) }) })) ∷ (item.line_break 6) ∷ [])) no_boxes no_boxes) no_boxes) no_boxes) no_boxes) ≡ (piece (record { node = 0; ordinal = 0 }) (record { i = (pos 0); b = (pos 0); inline = (pos 12800); block = (pos 3584) }) (block modes.VerticalRl directions.Ltr (record { i = (pos 0); b = (pos 0); inline = (pos 12800); block = (pos 3584) }) None (record { positive = (pos 0); negative = (pos 0) }) (record { positive = (pos 0); negative = (pos 0) }) false) (piece (record { node = 1; ordinal = 0 }) (record { i = (pos 0); b = (pos 1280); inline = (pos 12800); block = (pos 1024) }) (block modes.VerticalRl directions.Ltr (record { i = (pos 0); b = (pos 0); inline = (pos 12800); block = (pos 1024) }) None (record { positive = (pos 1280); negative = (pos 0) }) (record { positive = (pos 1280); negative = (pos 0) }) false) (piece (record { node = 2; ordinal = 0 }) (record { i = (pos 1280); b = (pos 0); inline = (pos 10240); block = (pos 1024) }) (block modes.VerticalRl directions.Ltr (record { i = (pos 0); b = (pos 0); inline = (pos 10240); block = (pos 1024) }) None (record { positive = (pos 1280); negative = (pos 0) }) (record { positive = (pos 1280); negative = (pos 0) }) false) (piece (record { node = 2; ordinal = 0 }) (record { i = (pos 0); b = (pos 0); inline = (pos 10240); block = (pos 1024) }) (line 0 (pos 512) modes.VerticalRl bases.Central) (piece (record { node = 3; ordinal = 0 }) (record { i = (pos 0); b = (pos 0); inline = (pos 512); block = (pos 1024) }) (run kinds.Turned 0 None (record { first = 0; end = 1; extent = (pos 512); glyphs = ((97 ∷ []) ∷ []) } ∷ [])) none (piece (record { node = 4; ordinal = 0 }) (record { i = (pos 512); b = (pos 0); inline = (pos 2048); block = (pos 1024) }) (block modes.SidewaysLr directions.Rtl (record { i = (pos 0); b = (pos 0); inline = (pos 2048); block = (pos 1024) }) None (record { positive = (pos 0); negative = (pos 0) }) (record { positive = (pos 0); negative = (pos 0) }) false) (piece (record { node = 4; ordinal = 0 }) (record { i = (pos 0); b = (pos 0); inline = (pos 2048); block = (pos 1024) }) (line 0 (pos 768) modes.SidewaysLr bases.Alphabetic) (piece (record { node = 5; ordinal = 0 }) (record { i = (pos 0); b = (pos 0); inline = (pos 2048); block = (pos 1024) }) (run kinds.Along 2 None (record { first = 0; end = 1; extent = (pos 1024); glyphs = ((12354 ∷ []) ∷ []) } ∷ record { first = 1; end = 2; extent = (pos 512); glyphs = ((32 ∷ []) ∷ []) } ∷ record { first = 2; end = 3; extent = (pos 512); glyphs = ((98 ∷ []) ∷ []) } ∷ [])) none none) none) none)) none) none) none) none)
unfolding laid_out_in
inline_block_in_another_vertical_mode = refl

-- Inline boxes, one of them empty and raised, in sideways-rl from right to left, beside digits, ideographs and a stray control.
inline_boxes_from_right_to_left : laid_out_in 12096 2496 (box (record { node = 0; ordinal = 0 }) (record initial { display = displays.FlowRoot; mode = modes.SidewaysRl; direction = directions.Rtl }) blocks (box (record { node = 1; ordinal = 0 }) (record initial { display = displays.Block; mode = modes.SidewaysRl; direction = directions.Rtl; margin = (record { top = (sizes.Length (pos 512)); right = (sizes.Length (pos 512)); bottom = (sizes.Length (pos 512)); left = (sizes.Length (pos 512)) }) }) blocks (box (record { node = 2; ordinal = 0 }) (record initial { display = displays.Block; mode = modes.SidewaysRl; direction = directions.Rtl; align = aligns.Left; height = (sizes.Length (pos 2560)) }) (inline ((begins 3 (record initial { mode = modes.SidewaysRl; direction = directions.Rtl; align = aligns.Left }) true) ∷ (item.text 4 (97 ∷ []) (record initial { mode = modes.SidewaysRl; direction = directions.Rtl; align = aligns.Left })) ∷ (ends 3 true) ∷ (item.text 5 (51 ∷ 230 ∷ 157 ∷ 177 ∷ 228 ∷ 186 ∷ 172 ∷ 219 ∷ 177 ∷ 226 ∷ 129 ∷ 169 ∷ []) (record initial { display = displays.Block; mode = modes.SidewaysRl; direction = directions.Rtl; align = aligns.Left; height = (sizes.Length (pos 2560)) })) ∷ (begins 6 (record initial { mode = modes.SidewaysRl; direction = directions.Rtl; combine = combines.All; align = aligns.Left; shift = (pos 128); border = (record { top = (pos 64); right = (pos 0); bottom = (pos 0); left = (pos 0) }) }) true) ∷ (ends 6 true) ∷ (item.text 7 (97 ∷ 227 ∷ 129 ∷ 130 ∷ []) (record initial { display = displays.Block; mode = modes.SidewaysRl; direction = directions.Rtl; align = aligns.Left; height = (sizes.Length (pos 2560)) })) ∷ [])) no_boxes no_boxes) no_boxes) no_boxes) ≡ (piece (record { node = 0; ordinal = 0 }) (record { i = (pos 0); b = (pos 0); inline = (pos 12096); block = (pos 4096) }) (block modes.SidewaysRl directions.Rtl (record { i = (pos 0); b = (pos 0); inline = (pos 12096); block = (pos 4096) }) None (record { positive = (pos 0); negative = (pos 0) }) (record { positive = (pos 0); negative = (pos 0) }) false) (piece (record { node = 1; ordinal = 0 }) (record { i = (pos 512); b = (pos 512); inline = (pos 11072); block = (pos 3072) }) (block modes.SidewaysRl directions.Rtl (record { i = (pos 0); b = (pos 0); inline = (pos 11072); block = (pos 3072) }) None (record { positive = (pos 512); negative = (pos 0) }) (record { positive = (pos 512); negative = (pos 0) }) false) (piece (record { node = 2; ordinal = 0 }) (record { i = (pos 0); b = (pos 0); inline = (pos 2560); block = (pos 3072) }) (block modes.SidewaysRl directions.Rtl (record { i = (pos 0); b = (pos 0); inline = (pos 2560); block = (pos 3072) }) None (record { positive = (pos 0); negative = (pos 0) }) (record { positive = (pos 0); negative = (pos 0) }) false) (piece (record { node = 2; ordinal = 0 }) (record { i = (pos 0); b = (pos 0); inline = (pos 2560); block = (pos 1024) }) (line 0 (pos 768) modes.SidewaysRl bases.Alphabetic) (piece (record { node = 3; ordinal = 0 }) (record { i = (pos 0); b = (pos 0); inline = (pos 512); block = (pos 1024) }) span (piece (record { node = 4; ordinal = 0 }) (record { i = (pos 0); b = (pos 0); inline = (pos 512); block = (pos 1024) }) (run kinds.Along 2 None (record { first = 0; end = 1; extent = (pos 512); glyphs = ((97 ∷ []) ∷ []) } ∷ [])) none none) (piece (record { node = 5; ordinal = 0 }) (record { i = (pos 512); b = (pos 0); inline = (pos 1536); block = (pos 1024) }) (run kinds.Along 2 None (record { first = 0; end = 1; extent = (pos 512); glyphs = ((51 ∷ []) ∷ []) } ∷ record { first = 1; end = 2; extent = (pos 1024); glyphs = ((26481 ∷ []) ∷ []) } ∷ [])) none none)) (piece (record { node = 2; ordinal = 0 }) (record { i = (pos 0); b = (pos 1024); inline = (pos 2560); block = (pos 1024) }) (line 1 (pos 768) modes.SidewaysRl bases.Alphabetic) (piece (record { node = 5; ordinal = 0 }) (record { i = (pos 0); b = (pos 0); inline = (pos 1536); block = (pos 1024) }) (run kinds.Along 2 None (record { first = 2; end = 3; extent = (pos 1024); glyphs = ((20140 ∷ []) ∷ []) } ∷ record { first = 3; end = 4; extent = (pos 512); glyphs = ((1777 ∷ []) ∷ []) } ∷ [])) none (piece (record { node = 7; ordinal = 0 }) (record { i = (pos 1536); b = (pos 0); inline = (pos 512); block = (pos 1024) }) (run kinds.Along 2 None (record { first = 0; end = 1; extent = (pos 512); glyphs = ((97 ∷ []) ∷ []) } ∷ [])) none none)) (piece (record { node = 2; ordinal = 0 }) (record { i = (pos 0); b = (pos 2048); inline = (pos 2560); block = (pos 1024) }) (line 2 (pos 768) modes.SidewaysRl bases.Alphabetic) (piece (record { node = 7; ordinal = 0 }) (record { i = (pos 0); b = (pos 0); inline = (pos 1024); block = (pos 1024) }) (run kinds.Along 2 None (record { first = 1; end = 2; extent = (pos 1024); glyphs = ((12354 ∷ []) ∷ []) } ∷ [])) none none) none))) none) none) none)
unfolding laid_out_in
inline_boxes_from_right_to_left = refl

-- Blocks and an anonymous block in one of a given size, with a percentage of it.
blocks_beside_an_anonymous_block : laid_out_in 6400 3200 (box (record { node = 0; ordinal = 0 }) (record initial { display = displays.FlowRoot }) blocks (box (record { node = 1; ordinal = 0 }) (record initial { display = displays.Block; margin = (record { top = (sizes.Length (pos 512)); right = (sizes.Length (pos 512)); bottom = (sizes.Length (pos 512)); left = (sizes.Length (pos 512)) }) }) blocks (box (record { node = 2; ordinal = 0 }) (record initial { display = displays.Block; height = (sizes.Length (pos 1920)) }) blocks (box (record { node = 3; ordinal = 0 }) (record initial { display = displays.Block }) (inline ((item.text 4 (97 ∷ 120 ∷ []) (record initial { display = displays.Block })) ∷ [])) no_boxes (box (record { node = 5; ordinal = 0 }) (record initial { display = displays.Block; font_size = (pos 640); height = (sizes.Percent (pos 5000)); min_height = (sizes.Length (pos 320)) }) (inline ((item.text 6 (227 ∷ 129 ∷ 130 ∷ 32 ∷ 98 ∷ []) (record initial { display = displays.Block; font_size = (pos 640); height = (sizes.Percent (pos 5000)); min_height = (sizes.Length (pos 320)) })) ∷ [])) no_boxes (box (record { node = 2; ordinal = 1 }) (record initial { display = displays.Block }) (inline ((item.text 7 (120 ∷ []) (record initial { display = displays.Block; height = (sizes.Length (pos 1920)) })) ∷ [])) no_boxes no_boxes))) no_boxes) no_boxes) no_boxes) ≡ (piece (record { node = 0; ordinal = 0 }) (record { i = (pos 0); b = (pos 0); inline = (pos 6400); block = (pos 2944) }) (block modes.HorizontalTb directions.Ltr (record { i = (pos 0); b = (pos 0); inline = (pos 6400); block = (pos 2944) }) None (record { positive = (pos 0); negative = (pos 0) }) (record { positive = (pos 0); negative = (pos 0) }) false) (piece (record { node = 1; ordinal = 0 }) (record { i = (pos 512); b = (pos 512); inline = (pos 5376); block = (pos 1920) }) (block modes.HorizontalTb directions.Ltr (record { i = (pos 0); b = (pos 0); inline = (pos 5376); block = (pos 1920) }) None (record { positive = (pos 512); negative = (pos 0) }) (record { positive = (pos 512); negative = (pos 0) }) false) (piece (record { node = 2; ordinal = 0 }) (record { i = (pos 0); b = (pos 0); inline = (pos 5376); block = (pos 1920) }) (block modes.HorizontalTb directions.Ltr (record { i = (pos 0); b = (pos 0); inline = (pos 5376); block = (pos 1920) }) (Some (pos 1920)) (record { positive = (pos 0); negative = (pos 0) }) (record { positive = (pos 0); negative = (pos 0) }) false) (piece (record { node = 3; ordinal = 0 }) (record { i = (pos 0); b = (pos 0); inline = (pos 5376); block = (pos 1024) }) (block modes.HorizontalTb directions.Ltr (record { i = (pos 0); b = (pos 0); inline = (pos 5376); block = (pos 1024) }) None (record { positive = (pos 0); negative = (pos 0) }) (record { positive = (pos 0); negative = (pos 0) }) false) (piece (record { node = 3; ordinal = 0 }) (record { i = (pos 0); b = (pos 0); inline = (pos 5376); block = (pos 1024) }) (line 0 (pos 768) modes.HorizontalTb bases.Alphabetic) (piece (record { node = 4; ordinal = 0 }) (record { i = (pos 0); b = (pos 0); inline = (pos 1024); block = (pos 1024) }) (run kinds.Along 0 None (record { first = 0; end = 1; extent = (pos 512); glyphs = ((97 ∷ []) ∷ []) } ∷ record { first = 1; end = 2; extent = (pos 512); glyphs = ((120 ∷ []) ∷ []) } ∷ [])) none none) none) (piece (record { node = 5; ordinal = 0 }) (record { i = (pos 0); b = (pos 1024); inline = (pos 5376); block = (pos 960) }) (block modes.HorizontalTb directions.Ltr (record { i = (pos 0); b = (pos 0); inline = (pos 5376); block = (pos 960) }) (Some (pos 960)) (record { positive = (pos 0); negative = (pos 0) }) (record { positive = (pos 0); negative = (pos 0) }) false) (piece (record { node = 5; ordinal = 0 }) (record { i = (pos 0); b = (pos 0); inline = (pos 5376); block = (pos 640) }) (line 0 (pos 480) modes.HorizontalTb bases.Alphabetic) (piece (record { node = 6; ordinal = 0 }) (record { i = (pos 0); b = (pos 0); inline = (pos 1280); block = (pos 640) }) (run kinds.Along 0 None (record { first = 0; end = 1; extent = (pos 640); glyphs = ((12354 ∷ []) ∷ []) } ∷ record { first = 1; end = 2; extent = (pos 320); glyphs = ((32 ∷ []) ∷ []) } ∷ record { first = 2; end = 3; extent = (pos 320); glyphs = ((98 ∷ []) ∷ []) } ∷ [])) none none) none) (piece (record { node = 2; ordinal = 1 }) (record { i = (pos 0); b = (pos 1984); inline = (pos 5376); block = (pos 1024) }) (block modes.HorizontalTb directions.Ltr (record { i = (pos 0); b = (pos 0); inline = (pos 5376); block = (pos 1024) }) (Some (pos 1920)) (record { positive = (pos 0); negative = (pos 0) }) (record { positive = (pos 0); negative = (pos 0) }) false) (piece (record { node = 2; ordinal = 1 }) (record { i = (pos 0); b = (pos 0); inline = (pos 5376); block = (pos 1024) }) (line 0 (pos 768) modes.HorizontalTb bases.Alphabetic) (piece (record { node = 7; ordinal = 0 }) (record { i = (pos 0); b = (pos 0); inline = (pos 512); block = (pos 1024) }) (run kinds.Along 0 None (record { first = 0; end = 1; extent = (pos 512); glyphs = ((120 ∷ []) ∷ []) } ∷ [])) none none) none) none))) none) none) none)
unfolding laid_out_in
blocks_beside_an_anonymous_block = refl
