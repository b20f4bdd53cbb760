-- Trees with the boxes that an independent implementation made of them, by computation.
use Rattle.std.specs.Prelude.{◌≡◌, refl, true, false, [], ◌∷◌, pos, codes}
use Rattle.wm_modes.specs.declared.mode.Direction.TheVariants as directions
use Rattle.wm_modes.specs.declared.mode.WritingMode.TheVariants as modes
use Rattle.style_types.specs.declared.style.Align.TheVariants as aligns
use Rattle.style_types.specs.declared.style.Display.TheVariants as displays
use Rattle.style_types.specs.declared.style.Size.TheVariants as sizes
use Rattle.style_types.specs.declared.style.UnicodeBidi.TheVariants as bidis
use Rattle.style_types.specs.Initial.{initial, on_sides}
use Rattle.fragment_types.specs.Item as item
use Rattle.fragment_types.specs.Item.{begins, ends, atom}
use Rattle.style_types.specs.Tree as styled
use Rattle.style_types.specs.Tree.{Nodes, node, element, line_break}
use Rattle.box_gen.specs.Boxes.{root_boxes, content, runs, closed, opened_again, stacked, join, is_blank}
use Rattle.box_gen.specs.declared.limit.BoxLimit.TheVariants as limits
use Rattle.box_gen.specs.Limit.{limit_node, limit_word}
use Rattle.box_gen.specs.Orthogonal.{past, root_past}
use Rattle.box_gen.specs.Tree.{box, none, blocks, inline}

-- a text, and an inline box round a line break
a_paragraph_tree : Nodes
a_paragraph_tree =
    node 0 element (record initial { display = displays.FlowRoot }) (node 1 element (record initial { display = displays.Block; bidi = bidis.BidiOverride; margin = on_sides (sizes.Length (pos 512)) }) (node 2 (styled.text (194 ∷ 160 ∷ [])) (record initial { display = displays.Block; bidi = bidis.BidiOverride; margin = on_sides (sizes.Length (pos 512)) }) styled.none (node 3 element initial (node 4 line_break initial styled.none styled.none) styled.none)) styled.none) styled.none

a_paragraph : root_boxes a_paragraph_tree ≡
    box (record { node = 0; ordinal = 0 }) (record initial { display = displays.FlowRoot }) blocks (box (record { node = 1; ordinal = 0 }) (record initial { display = displays.Block; bidi = bidis.BidiOverride; margin = on_sides (sizes.Length (pos 512)) }) (inline (item.text 2 (194 ∷ 160 ∷ []) (record initial { display = displays.Block; bidi = bidis.BidiOverride; margin = on_sides (sizes.Length (pos 512)) }) ∷ begins 3 initial true ∷ item.line_break 4 ∷ ends 3 true ∷ [])) none none) none
unfolding initial content runs closed opened_again stacked join is_blank a_paragraph_tree
a_paragraph = refl

-- a run before a block; margins are not taken over
an_anonymous_block_takes_unicode_bidi_tree : Nodes
an_anonymous_block_takes_unicode_bidi_tree =
    node 0 element (record initial { display = displays.FlowRoot }) (node 1 element (record initial { display = displays.Block; bidi = bidis.BidiOverride; margin = on_sides (sizes.Length (pos 512)) }) (node 2 (styled.text (194 ∷ 160 ∷ [])) (record initial { display = displays.Block; bidi = bidis.BidiOverride; margin = on_sides (sizes.Length (pos 512)) }) styled.none (node 3 element (record initial { display = displays.Block }) styled.none styled.none)) styled.none) styled.none

an_anonymous_block_takes_unicode_bidi : root_boxes an_anonymous_block_takes_unicode_bidi_tree ≡
    box (record { node = 0; ordinal = 0 }) (record initial { display = displays.FlowRoot }) blocks (box (record { node = 1; ordinal = 0 }) (record initial { display = displays.Block; bidi = bidis.BidiOverride; margin = on_sides (sizes.Length (pos 512)) }) blocks (box (record { node = 1; ordinal = 1 }) (record initial { display = displays.Block; bidi = bidis.BidiOverride }) (inline (item.text 2 (194 ∷ 160 ∷ []) (record initial { display = displays.Block; bidi = bidis.BidiOverride; margin = on_sides (sizes.Length (pos 512)) }) ∷ [])) none (box (record { node = 3; ordinal = 0 }) (record initial { display = displays.Block }) (inline []) none none)) none) none
unfolding initial content runs closed opened_again stacked join is_blank an_anonymous_block_takes_unicode_bidi_tree
an_anonymous_block_takes_unicode_bidi = refl

three_anonymous_blocks_tree : Nodes
three_anonymous_blocks_tree =
    node 0 element (record initial { display = displays.FlowRoot; mode = modes.VerticalRl }) (node 1 element (record initial { display = displays.Block; mode = modes.VerticalRl; margin = on_sides (sizes.Length (pos 512)) }) (node 2 line_break (record initial { mode = modes.VerticalRl }) styled.none (node 3 element (record initial { display = displays.Block; mode = modes.VerticalRl; shift = (pos 128) }) styled.none (node 4 element (record initial { mode = modes.VerticalRl }) styled.none (node 5 element (record initial { display = displays.Block; mode = modes.VerticalRl; shift = (pos 128) }) styled.none (node 6 (styled.text (226 ∷ 128 ∷ 170 ∷ [])) (record initial { display = displays.Block; mode = modes.VerticalRl; margin = on_sides (sizes.Length (pos 512)) }) styled.none styled.none))))) styled.none) styled.none

three_anonymous_blocks : root_boxes three_anonymous_blocks_tree ≡
    box (record { node = 0; ordinal = 0 }) (record initial { display = displays.FlowRoot; mode = modes.VerticalRl }) blocks (box (record { node = 1; ordinal = 0 }) (record initial { display = displays.Block; mode = modes.VerticalRl; margin = on_sides (sizes.Length (pos 512)) }) blocks (box (record { node = 1; ordinal = 1 }) (record initial { display = displays.Block; mode = modes.VerticalRl }) (inline (item.line_break 2 ∷ [])) none (box (record { node = 3; ordinal = 0 }) (record initial { display = displays.Block; mode = modes.VerticalRl; shift = (pos 128) }) (inline []) none (box (record { node = 1; ordinal = 2 }) (record initial { display = displays.Block; mode = modes.VerticalRl }) (inline (begins 4 (record initial { mode = modes.VerticalRl }) true ∷ ends 4 true ∷ [])) none (box (record { node = 5; ordinal = 0 }) (record initial { display = displays.Block; mode = modes.VerticalRl; shift = (pos 128) }) (inline []) none (box (record { node = 1; ordinal = 3 }) (record initial { display = displays.Block; mode = modes.VerticalRl }) (inline (item.text 6 (226 ∷ 128 ∷ 170 ∷ []) (record initial { display = displays.Block; mode = modes.VerticalRl; margin = on_sides (sizes.Length (pos 512)) }) ∷ [])) none none))))) none) none
unfolding initial content runs closed opened_again stacked join is_blank three_anonymous_blocks_tree
three_anonymous_blocks = refl

-- a hidden line break; the white space behind the block makes no box
hidden_nodes_are_nothing_tree : Nodes
hidden_nodes_are_nothing_tree =
    node 0 element (record initial { display = displays.FlowRoot }) (node 1 element (record initial { display = displays.Block; bidi = bidis.BidiOverride; margin = on_sides (sizes.Length (pos 512)) }) (node 2 line_break (record initial { display = displays.Hidden }) styled.none (node 3 element (record initial { display = displays.FlowRoot }) (node 4 (styled.text (codes "x")) (record initial { display = displays.FlowRoot }) styled.none styled.none) (node 5 (styled.text (codes " ")) (record initial { display = displays.Block; bidi = bidis.BidiOverride; margin = on_sides (sizes.Length (pos 512)) }) styled.none styled.none))) styled.none) styled.none

hidden_nodes_are_nothing : root_boxes hidden_nodes_are_nothing_tree ≡
    box (record { node = 0; ordinal = 0 }) (record initial { display = displays.FlowRoot }) blocks (box (record { node = 1; ordinal = 0 }) (record initial { display = displays.Block; bidi = bidis.BidiOverride; margin = on_sides (sizes.Length (pos 512)) }) blocks (box (record { node = 3; ordinal = 0 }) (record initial { display = displays.FlowRoot }) (inline (item.text 4 (codes "x") (record initial { display = displays.FlowRoot }) ∷ [])) none none) none) none
unfolding initial content runs closed opened_again stacked join is_blank hidden_nodes_are_nothing_tree
hidden_nodes_are_nothing = refl

white_space_between_blocks_tree : Nodes
white_space_between_blocks_tree =
    node 0 element (record initial { display = displays.FlowRoot }) (node 1 element (record initial { display = displays.Block; bidi = bidis.BidiOverride; margin = on_sides (sizes.Length (pos 512)) }) (node 2 element (record initial { display = displays.Hidden }) (node 3 (styled.text (codes "y")) (record initial { display = displays.Hidden }) styled.none styled.none) (node 4 element (record initial { display = displays.Block; align = aligns.End }) (node 5 line_break (record initial { align = aligns.End }) styled.none styled.none) (node 6 (styled.text (10 ∷ 9 ∷ [])) (record initial { display = displays.Block; bidi = bidis.BidiOverride; margin = on_sides (sizes.Length (pos 512)) }) styled.none (node 7 element (record initial { display = displays.FlowRoot }) (node 8 element initial (node 9 (styled.text (codes " ")) initial styled.none styled.none) styled.none) (node 10 (styled.text (10 ∷ 9 ∷ [])) (record initial { display = displays.Block; bidi = bidis.BidiOverride; margin = on_sides (sizes.Length (pos 512)) }) styled.none styled.none))))) styled.none) styled.none

white_space_between_blocks : root_boxes white_space_between_blocks_tree ≡
    box (record { node = 0; ordinal = 0 }) (record initial { display = displays.FlowRoot }) blocks (box (record { node = 1; ordinal = 0 }) (record initial { display = displays.Block; bidi = bidis.BidiOverride; margin = on_sides (sizes.Length (pos 512)) }) blocks (box (record { node = 4; ordinal = 0 }) (record initial { display = displays.Block; align = aligns.End }) (inline (item.line_break 5 ∷ [])) none (box (record { node = 7; ordinal = 0 }) (record initial { display = displays.FlowRoot }) (inline (begins 8 initial true ∷ item.text 9 (codes " ") initial ∷ ends 8 true ∷ [])) none none)) none) none
unfolding initial content runs closed opened_again stacked join is_blank white_space_between_blocks_tree
white_space_between_blocks = refl

an_atom_of_blocks_tree : Nodes
an_atom_of_blocks_tree =
    node 0 element (record initial { display = displays.FlowRoot }) (node 1 element (record initial { display = displays.Block; bidi = bidis.BidiOverride; margin = on_sides (sizes.Length (pos 512)) }) (node 2 element (record initial { display = displays.Hidden }) (node 3 (styled.text (codes "y")) (record initial { display = displays.Hidden }) styled.none styled.none) (node 4 element (record initial { display = displays.InlineBlock }) (node 5 line_break (record initial { display = displays.Hidden }) styled.none (node 6 element (record initial { display = displays.Block; align = aligns.End }) (node 7 element (record initial { display = displays.Hidden; align = aligns.End }) (node 8 (styled.text (codes "y")) (record initial { display = displays.Hidden; align = aligns.End }) styled.none styled.none) styled.none) styled.none)) styled.none)) styled.none) styled.none

an_atom_of_blocks : root_boxes an_atom_of_blocks_tree ≡
    box (record { node = 0; ordinal = 0 }) (record initial { display = displays.FlowRoot }) blocks (box (record { node = 1; ordinal = 0 }) (record initial { display = displays.Block; bidi = bidis.BidiOverride; margin = on_sides (sizes.Length (pos 512)) }) (inline (atom (record { node = 4; ordinal = 0 }) ∷ [])) (box (record { node = 4; ordinal = 0 }) (record initial { display = displays.InlineBlock }) blocks (box (record { node = 6; ordinal = 0 }) (record initial { display = displays.Block; align = aligns.End }) (inline []) none none) none) none) none
unfolding initial content runs closed opened_again stacked join is_blank an_atom_of_blocks_tree
an_atom_of_blocks = refl

a_block_in_an_atom_in_an_inline_box_tree : Nodes
a_block_in_an_atom_in_an_inline_box_tree =
    node 0 element (record initial { display = displays.FlowRoot }) (node 1 element (record initial { display = displays.Block; margin = on_sides (sizes.Length (pos 512)) }) (node 2 element (record initial { direction = directions.Rtl }) (node 3 (styled.text (10 ∷ 9 ∷ [])) (record initial { direction = directions.Rtl }) styled.none (node 4 element (record initial { display = displays.InlineBlock; mode = modes.VerticalLr; direction = directions.Rtl; bidi = bidis.Plaintext }) (node 5 element (record initial { display = displays.FlowRoot; mode = modes.VerticalLr; direction = directions.Rtl; margin = record { top = (sizes.Length (pos 64)); right = (sizes.Length (pos 0)); bottom = (sizes.Length (pos 64)); left = (sizes.Length (pos 0)) } }) (node 6 element (record initial { mode = modes.VerticalLr; direction = directions.Rtl }) (node 7 (styled.text (codes " ")) (record initial { mode = modes.VerticalLr; direction = directions.Rtl }) styled.none styled.none) (node 8 element (record initial { mode = modes.VerticalLr; direction = directions.Rtl; align = aligns.End }) styled.none (node 9 element (record initial { display = displays.FlowRoot; mode = modes.VerticalRl; direction = directions.Rtl }) styled.none (node 10 (styled.text (226 ∷ 128 ∷ 170 ∷ [])) (record initial { display = displays.FlowRoot; mode = modes.VerticalLr; direction = directions.Rtl; margin = record { top = (sizes.Length (pos 64)); right = (sizes.Length (pos 0)); bottom = (sizes.Length (pos 64)); left = (sizes.Length (pos 0)) } }) styled.none (node 11 element (record initial { display = displays.Hidden; mode = modes.VerticalLr; direction = directions.Rtl; bidi = bidis.Plaintext }) (node 12 (styled.text (codes "x")) (record initial { display = displays.Hidden; mode = modes.VerticalLr; direction = directions.Rtl; bidi = bidis.Plaintext }) styled.none styled.none) (node 13 (styled.text (194 ∷ 160 ∷ [])) (record initial { display = displays.FlowRoot; mode = modes.VerticalLr; direction = directions.Rtl; margin = record { top = (sizes.Length (pos 64)); right = (sizes.Length (pos 0)); bottom = (sizes.Length (pos 64)); left = (sizes.Length (pos 0)) } }) styled.none styled.none)))))) styled.none) styled.none)) styled.none) styled.none) styled.none

a_block_in_an_atom_in_an_inline_box : root_boxes a_block_in_an_atom_in_an_inline_box_tree ≡
    box (record { node = 0; ordinal = 0 }) (record initial { display = displays.FlowRoot }) blocks (box (record { node = 1; ordinal = 0 }) (record initial { display = displays.Block; margin = on_sides (sizes.Length (pos 512)) }) (inline (begins 2 (record initial { direction = directions.Rtl }) true ∷ item.text 3 (10 ∷ 9 ∷ []) (record initial { direction = directions.Rtl }) ∷ atom (record { node = 4; ordinal = 0 }) ∷ ends 2 true ∷ [])) (box (record { node = 4; ordinal = 0 }) (record initial { display = displays.InlineBlock; mode = modes.VerticalLr; direction = directions.Rtl; bidi = bidis.Plaintext }) blocks (box (record { node = 5; ordinal = 0 }) (record initial { display = displays.FlowRoot; mode = modes.VerticalLr; direction = directions.Rtl; margin = record { top = (sizes.Length (pos 64)); right = (sizes.Length (pos 0)); bottom = (sizes.Length (pos 64)); left = (sizes.Length (pos 0)) } }) blocks (box (record { node = 5; ordinal = 1 }) (record initial { display = displays.Block; mode = modes.VerticalLr; direction = directions.Rtl }) (inline (begins 6 (record initial { mode = modes.VerticalLr; direction = directions.Rtl }) true ∷ item.text 7 (codes " ") (record initial { mode = modes.VerticalLr; direction = directions.Rtl }) ∷ ends 6 true ∷ begins 8 (record initial { mode = modes.VerticalLr; direction = directions.Rtl; align = aligns.End }) true ∷ ends 8 true ∷ [])) none (box (record { node = 9; ordinal = 0 }) (record initial { display = displays.FlowRoot; mode = modes.VerticalRl; direction = directions.Rtl }) (inline []) none (box (record { node = 5; ordinal = 2 }) (record initial { display = displays.Block; mode = modes.VerticalLr; direction = directions.Rtl }) (inline (item.text 10 (226 ∷ 128 ∷ 170 ∷ []) (record initial { display = displays.FlowRoot; mode = modes.VerticalLr; direction = directions.Rtl; margin = record { top = (sizes.Length (pos 64)); right = (sizes.Length (pos 0)); bottom = (sizes.Length (pos 64)); left = (sizes.Length (pos 0)) } }) ∷ item.text 13 (194 ∷ 160 ∷ []) (record initial { display = displays.FlowRoot; mode = modes.VerticalLr; direction = directions.Rtl; margin = record { top = (sizes.Length (pos 64)); right = (sizes.Length (pos 0)); bottom = (sizes.Length (pos 64)); left = (sizes.Length (pos 0)) } }) ∷ [])) none none))) none) none) none) none
unfolding initial content runs closed opened_again stacked join is_blank a_block_in_an_atom_in_an_inline_box_tree
a_block_in_an_atom_in_an_inline_box = refl

-- only the first piece has its start edges, and only the last its end edges
a_block_cuts_an_inline_box_tree : Nodes
a_block_cuts_an_inline_box_tree =
    node 0 element (record initial { display = displays.FlowRoot }) (node 1 element (record initial { display = displays.Block }) (node 2 element (record initial { padding = on_sides (sizes.Length (pos 64)) }) (node 3 (styled.text (codes "x")) (record initial { padding = on_sides (sizes.Length (pos 64)) }) styled.none (node 4 element (record initial { display = displays.Block }) (node 5 (styled.text (codes "y")) (record initial { display = displays.Block }) styled.none styled.none) (node 6 (styled.text (codes "z")) (record initial { padding = on_sides (sizes.Length (pos 64)) }) styled.none styled.none))) styled.none) styled.none) styled.none

a_block_cuts_an_inline_box : root_boxes a_block_cuts_an_inline_box_tree ≡
    box (record { node = 0; ordinal = 0 }) (record initial { display = displays.FlowRoot }) blocks (box (record { node = 1; ordinal = 0 }) (record initial { display = displays.Block }) blocks (box (record { node = 1; ordinal = 1 }) (record initial { display = displays.Block }) (inline (begins 2 (record initial { padding = on_sides (sizes.Length (pos 64)) }) true ∷ item.text 3 (codes "x") (record initial { padding = on_sides (sizes.Length (pos 64)) }) ∷ ends 2 false ∷ [])) none (box (record { node = 4; ordinal = 0 }) (record initial { display = displays.Block }) (inline (item.text 5 (codes "y") (record initial { display = displays.Block }) ∷ [])) none (box (record { node = 1; ordinal = 2 }) (record initial { display = displays.Block }) (inline (begins 2 (record initial { padding = on_sides (sizes.Length (pos 64)) }) false ∷ item.text 6 (codes "z") (record initial { padding = on_sides (sizes.Length (pos 64)) }) ∷ ends 2 true ∷ [])) none none))) none) none
unfolding initial content runs closed opened_again stacked join is_blank a_block_cuts_an_inline_box_tree
a_block_cuts_an_inline_box = refl

-- the pieces end from the innermost out, and begin again from the outermost in
a_block_cuts_two_inline_boxes_tree : Nodes
a_block_cuts_two_inline_boxes_tree =
    node 0 element (record initial { display = displays.FlowRoot }) (node 1 element (record initial { display = displays.Block }) (node 2 element initial (node 3 element initial (node 4 (styled.text (codes "x")) initial styled.none (node 5 element (record initial { display = displays.Block }) (node 6 (styled.text (codes "y")) (record initial { display = displays.Block }) styled.none styled.none) (node 7 (styled.text (codes "z")) initial styled.none styled.none))) styled.none) styled.none) styled.none) styled.none

a_block_cuts_two_inline_boxes : root_boxes a_block_cuts_two_inline_boxes_tree ≡
    box (record { node = 0; ordinal = 0 }) (record initial { display = displays.FlowRoot }) blocks (box (record { node = 1; ordinal = 0 }) (record initial { display = displays.Block }) blocks (box (record { node = 1; ordinal = 1 }) (record initial { display = displays.Block }) (inline (begins 2 initial true ∷ begins 3 initial true ∷ item.text 4 (codes "x") initial ∷ ends 3 false ∷ ends 2 false ∷ [])) none (box (record { node = 5; ordinal = 0 }) (record initial { display = displays.Block }) (inline (item.text 6 (codes "y") (record initial { display = displays.Block }) ∷ [])) none (box (record { node = 1; ordinal = 2 }) (record initial { display = displays.Block }) (inline (begins 2 initial false ∷ begins 3 initial false ∷ item.text 7 (codes "z") initial ∷ ends 3 true ∷ ends 2 true ∷ [])) none none))) none) none
unfolding initial content runs closed opened_again stacked join is_blank a_block_cuts_two_inline_boxes_tree
a_block_cuts_two_inline_boxes = refl

-- the pieces round it are white space too, so none of the three runs makes a block
white_space_between_two_blocks_in_an_inline_box_tree : Nodes
white_space_between_two_blocks_in_an_inline_box_tree =
    node 0 element (record initial { display = displays.FlowRoot }) (node 1 element (record initial { display = displays.Block }) (node 2 element initial (node 3 element (record initial { display = displays.Block }) (node 4 (styled.text (codes "x")) (record initial { display = displays.Block }) styled.none styled.none) (node 5 (styled.text (codes " ")) initial styled.none (node 6 element (record initial { display = displays.Block }) (node 7 (styled.text (codes "y")) (record initial { display = displays.Block }) styled.none styled.none) styled.none))) styled.none) styled.none) styled.none

white_space_between_two_blocks_in_an_inline_box : root_boxes white_space_between_two_blocks_in_an_inline_box_tree ≡
    box (record { node = 0; ordinal = 0 }) (record initial { display = displays.FlowRoot }) blocks (box (record { node = 1; ordinal = 0 }) (record initial { display = displays.Block }) blocks (box (record { node = 3; ordinal = 0 }) (record initial { display = displays.Block }) (inline (item.text 4 (codes "x") (record initial { display = displays.Block }) ∷ [])) none (box (record { node = 6; ordinal = 0 }) (record initial { display = displays.Block }) (inline (item.text 7 (codes "y") (record initial { display = displays.Block }) ∷ [])) none none)) none) none
unfolding initial content runs closed opened_again stacked join is_blank white_space_between_two_blocks_in_an_inline_box_tree
white_space_between_two_blocks_in_an_inline_box = refl

a_line_break_between_two_blocks_in_an_inline_box_tree : Nodes
a_line_break_between_two_blocks_in_an_inline_box_tree =
    node 0 element (record initial { display = displays.FlowRoot }) (node 1 element (record initial { display = displays.Block }) (node 2 element initial (node 3 element (record initial { display = displays.Block }) styled.none (node 4 line_break initial styled.none (node 5 element (record initial { display = displays.Block }) styled.none styled.none))) styled.none) styled.none) styled.none

a_line_break_between_two_blocks_in_an_inline_box : root_boxes a_line_break_between_two_blocks_in_an_inline_box_tree ≡
    box (record { node = 0; ordinal = 0 }) (record initial { display = displays.FlowRoot }) blocks (box (record { node = 1; ordinal = 0 }) (record initial { display = displays.Block }) blocks (box (record { node = 3; ordinal = 0 }) (record initial { display = displays.Block }) (inline ([])) none (box (record { node = 1; ordinal = 1 }) (record initial { display = displays.Block }) (inline (begins 2 initial false ∷ item.line_break 4 ∷ ends 2 false ∷ [])) none (box (record { node = 5; ordinal = 0 }) (record initial { display = displays.Block }) (inline ([])) none none))) none) none
unfolding initial content runs closed opened_again stacked join is_blank a_line_break_between_two_blocks_in_an_inline_box_tree
a_line_break_between_two_blocks_in_an_inline_box = refl

-- one that no block cuts is inline content, though nothing is in it
an_inline_box_between_two_blocks_in_an_inline_box_tree : Nodes
an_inline_box_between_two_blocks_in_an_inline_box_tree =
    node 0 element (record initial { display = displays.FlowRoot }) (node 1 element (record initial { display = displays.Block }) (node 2 element initial (node 3 element (record initial { display = displays.Block }) styled.none (node 4 element initial styled.none (node 5 element (record initial { display = displays.Block }) styled.none styled.none))) styled.none) styled.none) styled.none

an_inline_box_between_two_blocks_in_an_inline_box : root_boxes an_inline_box_between_two_blocks_in_an_inline_box_tree ≡
    box (record { node = 0; ordinal = 0 }) (record initial { display = displays.FlowRoot }) blocks (box (record { node = 1; ordinal = 0 }) (record initial { display = displays.Block }) blocks (box (record { node = 3; ordinal = 0 }) (record initial { display = displays.Block }) (inline ([])) none (box (record { node = 1; ordinal = 1 }) (record initial { display = displays.Block }) (inline (begins 2 initial false ∷ begins 4 initial true ∷ ends 4 true ∷ ends 2 false ∷ [])) none (box (record { node = 5; ordinal = 0 }) (record initial { display = displays.Block }) (inline ([])) none none))) none) none
unfolding initial content runs closed opened_again stacked join is_blank an_inline_box_between_two_blocks_in_an_inline_box_tree
an_inline_box_between_two_blocks_in_an_inline_box = refl

-- so its start edges stand nowhere
a_first_piece_without_a_box_tree : Nodes
a_first_piece_without_a_box_tree =
    node 0 element (record initial { display = displays.FlowRoot }) (node 1 element (record initial { display = displays.Block }) (node 2 element (record initial { display = displays.Block }) (node 3 (styled.text (codes " ")) (record initial { display = displays.Block }) styled.none (node 4 element (record initial { padding = on_sides (sizes.Length (pos 64)) }) (node 5 element (record initial { display = displays.Block }) (node 6 (styled.text (codes "x")) (record initial { display = displays.Block }) styled.none styled.none) (node 7 (styled.text (codes "y")) (record initial { padding = on_sides (sizes.Length (pos 64)) }) styled.none styled.none)) styled.none)) styled.none) styled.none) styled.none

a_first_piece_without_a_box : root_boxes a_first_piece_without_a_box_tree ≡
    box (record { node = 0; ordinal = 0 }) (record initial { display = displays.FlowRoot }) blocks (box (record { node = 1; ordinal = 0 }) (record initial { display = displays.Block }) blocks (box (record { node = 2; ordinal = 0 }) (record initial { display = displays.Block }) blocks (box (record { node = 5; ordinal = 0 }) (record initial { display = displays.Block }) (inline (item.text 6 (codes "x") (record initial { display = displays.Block }) ∷ [])) none (box (record { node = 2; ordinal = 1 }) (record initial { display = displays.Block }) (inline (begins 4 (record initial { padding = on_sides (sizes.Length (pos 64)) }) false ∷ item.text 7 (codes "y") (record initial { padding = on_sides (sizes.Length (pos 64)) }) ∷ ends 4 true ∷ [])) none none)) none) none) none
unfolding initial content runs closed opened_again stacked join is_blank a_first_piece_without_a_box_tree
a_first_piece_without_a_box = refl

-- the piece in the middle has no edges
two_blocks_cut_an_inline_box_tree : Nodes
two_blocks_cut_an_inline_box_tree =
    node 0 element (record initial { display = displays.FlowRoot }) (node 1 element (record initial { display = displays.Block }) (node 2 element (record initial { padding = on_sides (sizes.Length (pos 64)) }) (node 3 (styled.text (codes "x")) (record initial { padding = on_sides (sizes.Length (pos 64)) }) styled.none (node 4 element (record initial { display = displays.Block }) styled.none (node 5 (styled.text (codes "y")) (record initial { padding = on_sides (sizes.Length (pos 64)) }) styled.none (node 6 element (record initial { display = displays.Block }) styled.none (node 7 (styled.text (codes "z")) (record initial { padding = on_sides (sizes.Length (pos 64)) }) styled.none styled.none))))) styled.none) styled.none) styled.none

two_blocks_cut_an_inline_box : root_boxes two_blocks_cut_an_inline_box_tree ≡
    box (record { node = 0; ordinal = 0 }) (record initial { display = displays.FlowRoot }) blocks (box (record { node = 1; ordinal = 0 }) (record initial { display = displays.Block }) blocks (box (record { node = 1; ordinal = 1 }) (record initial { display = displays.Block }) (inline (begins 2 (record initial { padding = on_sides (sizes.Length (pos 64)) }) true ∷ item.text 3 (codes "x") (record initial { padding = on_sides (sizes.Length (pos 64)) }) ∷ ends 2 false ∷ [])) none (box (record { node = 4; ordinal = 0 }) (record initial { display = displays.Block }) (inline ([])) none (box (record { node = 1; ordinal = 2 }) (record initial { display = displays.Block }) (inline (begins 2 (record initial { padding = on_sides (sizes.Length (pos 64)) }) false ∷ item.text 5 (codes "y") (record initial { padding = on_sides (sizes.Length (pos 64)) }) ∷ ends 2 false ∷ [])) none (box (record { node = 6; ordinal = 0 }) (record initial { display = displays.Block }) (inline ([])) none (box (record { node = 1; ordinal = 3 }) (record initial { display = displays.Block }) (inline (begins 2 (record initial { padding = on_sides (sizes.Length (pos 64)) }) false ∷ item.text 7 (codes "z") (record initial { padding = on_sides (sizes.Length (pos 64)) }) ∷ ends 2 true ∷ [])) none none))))) none) none
unfolding initial content runs closed opened_again stacked join is_blank two_blocks_cut_an_inline_box_tree
two_blocks_cut_an_inline_box = refl

-- and the inline box round the atom stays whole
a_block_in_an_atom_cuts_what_is_in_it_tree : Nodes
a_block_in_an_atom_cuts_what_is_in_it_tree =
    node 0 element (record initial { display = displays.FlowRoot }) (node 1 element (record initial { display = displays.Block }) (node 2 element initial (node 3 (styled.text (codes "x")) initial styled.none (node 4 element (record initial { display = displays.InlineBlock }) (node 5 element initial (node 6 (styled.text (codes "y")) initial styled.none (node 7 element (record initial { display = displays.Block }) styled.none styled.none)) styled.none) styled.none)) styled.none) styled.none) styled.none

a_block_in_an_atom_cuts_what_is_in_it : root_boxes a_block_in_an_atom_cuts_what_is_in_it_tree ≡
    box (record { node = 0; ordinal = 0 }) (record initial { display = displays.FlowRoot }) blocks (box (record { node = 1; ordinal = 0 }) (record initial { display = displays.Block }) (inline (begins 2 initial true ∷ item.text 3 (codes "x") initial ∷ atom (record { node = 4; ordinal = 0 }) ∷ ends 2 true ∷ [])) (box (record { node = 4; ordinal = 0 }) (record initial { display = displays.InlineBlock }) blocks (box (record { node = 4; ordinal = 1 }) (record initial { display = displays.Block }) (inline (begins 5 initial true ∷ item.text 6 (codes "y") initial ∷ ends 5 false ∷ [])) none (box (record { node = 7; ordinal = 0 }) (record initial { display = displays.Block }) (inline ([])) none none)) none) none) none
unfolding initial content runs closed opened_again stacked join is_blank a_block_in_an_atom_cuts_what_is_in_it_tree
a_block_in_an_atom_cuts_what_is_in_it = refl

a_hidden_element_parts_no_run_tree : Nodes
a_hidden_element_parts_no_run_tree =
    node 0 element (record initial { display = displays.FlowRoot }) (node 1 element (record initial { display = displays.Block }) (node 2 element initial (node 3 (styled.text (codes "x")) initial styled.none (node 4 element (record initial { display = displays.Hidden }) (node 5 element (record initial { display = displays.Block }) styled.none styled.none) (node 6 (styled.text (codes "y")) initial styled.none (node 7 element (record initial { display = displays.Block }) styled.none styled.none)))) styled.none) styled.none) styled.none

a_hidden_element_parts_no_run : root_boxes a_hidden_element_parts_no_run_tree ≡
    box (record { node = 0; ordinal = 0 }) (record initial { display = displays.FlowRoot }) blocks (box (record { node = 1; ordinal = 0 }) (record initial { display = displays.Block }) blocks (box (record { node = 1; ordinal = 1 }) (record initial { display = displays.Block }) (inline (begins 2 initial true ∷ item.text 3 (codes "x") initial ∷ item.text 6 (codes "y") initial ∷ ends 2 false ∷ [])) none (box (record { node = 7; ordinal = 0 }) (record initial { display = displays.Block }) (inline ([])) none none)) none) none
unfolding initial content runs closed opened_again stacked join is_blank a_hidden_element_parts_no_run_tree
a_hidden_element_parts_no_run = refl

-- six boxes that turn, one in the other
six_turn_tree : Nodes
six_turn_tree =
    node 0 element (record initial { display = displays.FlowRoot }) (node 1 element (record initial { display = displays.Block; mode = modes.VerticalRl }) (node 2 element (record initial { display = displays.Block; mode = modes.HorizontalTb }) (node 3 element (record initial { display = displays.InlineBlock; mode = modes.VerticalRl }) (node 4 element (record initial { display = displays.Block; mode = modes.HorizontalTb }) (node 5 element (record initial { display = displays.Block; mode = modes.VerticalRl }) (node 6 element (record initial { display = displays.Block; mode = modes.HorizontalTb }) styled.none styled.none) styled.none) styled.none) styled.none) styled.none) styled.none) styled.none

six_turn : root_past six_turn_tree ≡ []
unfolding initial past six_turn_tree
six_turn = refl

-- seven boxes that turn, one in the other
seven_turn_tree : Nodes
seven_turn_tree =
    node 0 element (record initial { display = displays.FlowRoot }) (node 1 element (record initial { display = displays.Block; mode = modes.VerticalRl }) (node 2 element (record initial { display = displays.Block; mode = modes.HorizontalTb }) (node 3 element (record initial { display = displays.InlineBlock; mode = modes.VerticalRl }) (node 4 element (record initial { display = displays.Block; mode = modes.HorizontalTb }) (node 5 element (record initial { display = displays.Block; mode = modes.VerticalRl }) (node 6 element (record initial { display = displays.Block; mode = modes.HorizontalTb }) (node 7 element (record initial { display = displays.Block; mode = modes.VerticalRl }) styled.none styled.none) styled.none) styled.none) styled.none) styled.none) styled.none) styled.none) styled.none

seven_turn : root_past seven_turn_tree ≡ 7 ∷ []
unfolding initial past seven_turn_tree
seven_turn = refl

-- ---- what is told of a limit

too_many_turn : limit_word (limits.TooManyOrthogonal 7) ≡ codes "TooManyOrthogonal"
unfolding limit_word
too_many_turn = refl

the_node_that_turns : limit_node (limits.TooManyOrthogonal 7) ≡ 7
the_node_that_turns = refl
