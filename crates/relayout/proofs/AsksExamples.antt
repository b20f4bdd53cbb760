-- What flow layout asks for, at small trees, by computation: the pairs of a box and a constraint that are met, and the boxes that hold a paragraph.
-- An independent implementation gives the same. Lengths are in units of 1/64 px.
use Rattle.std.specs.Prelude.{◌≡◌, ℕ, refl, Bool, true, ◌&&◌, nat_eq, length as count_of, [], ◌∷◌, ◌*◌, List, Option, Some, None, ℤ, pos}
use Rattle.fragment_types.specs.declared.item.BoxName.{BoxName}
use Rattle.style_types.specs.declared.style.Display.TheVariants as displays
use Rattle.style_types.specs.declared.style.Size.{Size}
use Rattle.style_types.specs.declared.style.Size.TheVariants as sizes
use Rattle.style_types.specs.declared.style.Style.{Style}
use Rattle.box_gen.specs.Tree.{Boxes, none as no_boxes, box, blocks, inline}
use Rattle.size_rules.specs.Equation.{or_zero, rest, start_margin}
use Rattle.para_lines.specs.Lines.{paragraph_lines}
use Rattle.para_lines.specs.Filling.{paragraph_sizes}
use Rattle.relayout.specs.Content.{filled, paragraph, stack}
use Rattle.relayout.specs.Boxed.{block_box, border_box, boxed, content_area, handed_on, measured}
use Rattle.relayout.specs.Flow.{asked, flow_step, laid_out}
use Rattle.relayout.specs.Inline.{equation_of, inline_place, inline_size, known_size, shrunk}
use Rattle.relayout.specs.Intrinsic.{contribution, inner}
use Rattle.face_api.specs.Kinds.{mono_table, wide_table, first_table}
use Rattle.face_api.specs.Living.{used_table}
use Rattle.face_api.specs.Table.{Table, advance_of}
use Rattle.wm_modes.specs.declared.mode.WritingMode.TheVariants as modes
use Rattle.wm_chars.specs.Repertoire.{row_of, bidi_class, break_class, orientation}
use Rattle.wm_chars.specs.Pairs.{mirror, bracket}
use Rattle.style_types.specs.Initial.{initial}
use Rattle.fragment_types.specs.Item as item
use Rattle.fragment_types.specs.Item.{begins, ends, atom}
use Rattle.cluster_units.specs.Cluster.{unit_clusters}
use Rattle.cluster_units.specs.Unit.{units_of}
use Rattle.bidi_explicit.specs.Explicit.{explicit_levels, explicit_classes}
use Rattle.bidi_explicit.specs.Sequences.{isolating_runs}
use Rattle.bidi_order.specs.Visual.{visual_order}
use Rattle.bidi_order.specs.Blanks.{reset}
use Rattle.bidi_order.specs.Reversals.{order}
use Rattle.bidi_resolve.specs.Paragraph.{paragraph_levels}
use Rattle.bidi_resolve.specs.Sequence.{weak, resolved, sequence_classes, sequence_levels}
use Rattle.line_place.specs.Leaves.{leaves}
use Rattle.line_place.specs.Marks.{marks as line_marks}
use Rattle.para_prepare.specs.BidiText.{bidi_texts}
use Rattle.para_prepare.specs.Boxes.{taking_part}
use Rattle.para_prepare.specs.Inside.{inside}
use Rattle.para_prepare.specs.Content.{parts}
use Rattle.para_prepare.specs.Preparation.{preparation}
use Rattle.para_prepare.specs.White.{marks}
use Rattle.para_lines.specs.Around.{box_at, chains}
use Rattle.para_lines.specs.Filling.{fill_items}
use Rattle.unicode_segmentation.proofs.Computing.{unicode_segmentation}
use Rattle.box_gen.specs.Places.{paragraphs}
use Rattle.relayout.specs.Asks.{Pair, asks, is_among}

abbrev faces : List (Option Table)
faces = Some mono_table ∷ Some wide_table ∷ Some first_table ∷ []

unfoldable asks_in : (inline_size block_size : ℕ) → Boxes → List Pair
unfolding flow_step asked measured laid_out boxed border_box content_area block_box handed_on contribution inner shrunk equation_of inline_size known_size inline_place stack paragraph filled paragraph_sizes paragraph_lines fill_items box_at chains leaves line_marks preparation parts marks taking_part bidi_texts inside visual_order reset order paragraph_levels explicit_levels explicit_classes isolating_runs weak resolved sequence_classes sequence_levels units_of unit_clusters advance_of used_table row_of bidi_class break_class orientation mirror bracket initial unicode_segmentation or_zero rest start_margin
asks_in inline_size block_size boxes = asks faces (record { inline = pos inline_size; block = pos block_size }) boxes

abbrev pair : (node ordinal : ℕ) → (inline_size block_size : Option ℤ) → Pair
pair node ordinal inline_size block_size = record { name = record { node = node; ordinal = ordinal }; constraint = record { inline = inline_size; block = block_size } }

abbrev all_among : List Pair → List Pair → Bool
all_among [] pairs = true
all_among (one ∷ others) pairs = is_among one pairs && all_among others pairs

abbrev asks_are : (ours theirs : List Pair) → Bool
asks_are ours theirs = nat_eq (count_of ours) (count_of theirs) && all_among theirs ours

abbrev name : (node ordinal : ℕ) → BoxName
name node ordinal = record { node = node; ordinal = ordinal }

abbrev root_style : Style
root_style = record initial { display = displays.FlowRoot }

abbrev plain : Style
plain = record initial { display = displays.Block }

abbrev atom_style : Style
atom_style = record initial { display = displays.InlineBlock }

abbrev length : ℕ → Size
length units = sizes.Length (pos units)

abbrev percent : ℕ → Size
percent percents = sizes.Percent (pos (percents * 100))

-- An inline-block is asked for its content, and so the turned box in it; a box of a given size asks none of its children for theirs.
abbrev an_atom_round_a_turned_box : Boxes
an_atom_round_a_turned_box =
    box (name 0 0) root_style blocks (box (name 1 0) plain (inline ((atom (name 2 0)) ∷ (item.text 6 (99 ∷ 100 ∷ []) plain) ∷ [])) (box (name 2 0) atom_style blocks (box (name 3 0) (record root_style { mode = modes.VerticalRl; height = (length 1280) }) blocks (box (name 4 0) (record plain { mode = modes.VerticalRl }) (inline ((item.text 5 (97 ∷ 98 ∷ []) (record plain { mode = modes.VerticalRl })) ∷ [])) no_boxes no_boxes) no_boxes) no_boxes) no_boxes) no_boxes

an_atom_round_a_turned_box_asks : asks_are (asks_in 12800 6400 an_atom_round_a_turned_box) (pair 0 0 (Some (pos 12800)) (Some (pos 6400)) ∷ pair 1 0 (Some (pos 12800)) None ∷ pair 2 0 (Some (pos 12800)) None ∷ pair 3 0 None None ∷ pair 3 0 (Some (pos 1024)) None ∷ pair 4 0 (Some (pos 1280)) None ∷ []) ≡ true
unfolding asks_in
an_atom_round_a_turned_box_asks = refl

an_atom_round_a_turned_box_paragraphs : paragraphs an_atom_round_a_turned_box ≡ name 1 0 ∷ name 4 0 ∷ []
an_atom_round_a_turned_box_paragraphs = refl

-- More text in the inline-block: its box and the boxes inside it are asked for other sizes.
abbrev more_text_inside : Boxes
more_text_inside =
    box (name 0 0) root_style blocks (box (name 1 0) plain (inline ((atom (name 2 0)) ∷ (item.text 6 (99 ∷ 100 ∷ []) plain) ∷ [])) (box (name 2 0) atom_style blocks (box (name 3 0) (record root_style { mode = modes.VerticalRl; height = (length 1280) }) blocks (box (name 4 0) (record plain { mode = modes.VerticalRl }) (inline ((item.text 5 (97 ∷ 98 ∷ 32 ∷ 99 ∷ 100 ∷ []) (record plain { mode = modes.VerticalRl })) ∷ [])) no_boxes no_boxes) no_boxes) no_boxes) no_boxes) no_boxes

more_text_inside_asks : asks_are (asks_in 12800 6400 more_text_inside) (pair 0 0 (Some (pos 12800)) (Some (pos 6400)) ∷ pair 1 0 (Some (pos 12800)) None ∷ pair 2 0 (Some (pos 12800)) None ∷ pair 3 0 None None ∷ pair 3 0 (Some (pos 2048)) None ∷ pair 4 0 (Some (pos 1280)) None ∷ []) ≡ true
unfolding asks_in
more_text_inside_asks = refl

more_text_inside_paragraphs : paragraphs more_text_inside ≡ name 1 0 ∷ name 4 0 ∷ []
more_text_inside_paragraphs = refl

-- Other text beside it: the pairs of the inline-block and of those in it are what they were.
abbrev more_text_beside : Boxes
more_text_beside =
    box (name 0 0) root_style blocks (box (name 1 0) plain (inline ((atom (name 2 0)) ∷ (item.text 6 (101 ∷ 102 ∷ []) plain) ∷ [])) (box (name 2 0) atom_style blocks (box (name 3 0) (record root_style { mode = modes.VerticalRl; height = (length 1280) }) blocks (box (name 4 0) (record plain { mode = modes.VerticalRl }) (inline ((item.text 5 (97 ∷ 98 ∷ []) (record plain { mode = modes.VerticalRl })) ∷ [])) no_boxes no_boxes) no_boxes) no_boxes) no_boxes) no_boxes

more_text_beside_asks : asks_are (asks_in 12800 6400 more_text_beside) (pair 0 0 (Some (pos 12800)) (Some (pos 6400)) ∷ pair 1 0 (Some (pos 12800)) None ∷ pair 2 0 (Some (pos 12800)) None ∷ pair 3 0 None None ∷ pair 3 0 (Some (pos 1024)) None ∷ pair 4 0 (Some (pos 1280)) None ∷ []) ≡ true
unfolding asks_in
more_text_beside_asks = refl

more_text_beside_paragraphs : paragraphs more_text_beside ≡ name 1 0 ∷ name 4 0 ∷ []
more_text_beside_paragraphs = refl

-- Six turned boxes one inside the other: each is met in many ways, and asked for one pair or for two.
abbrev six_nested : Boxes
six_nested =
    box (name 0 0) root_style blocks (box (name 1 0) plain blocks (box (name 2 0) (record root_style { mode = modes.VerticalRl }) blocks (box (name 3 0) root_style blocks (box (name 4 0) (record root_style { mode = modes.VerticalRl }) blocks (box (name 5 0) root_style blocks (box (name 6 0) (record root_style { mode = modes.VerticalRl }) blocks (box (name 7 0) root_style (inline ([])) no_boxes no_boxes) no_boxes) no_boxes) no_boxes) no_boxes) no_boxes) no_boxes) no_boxes

six_nested_asks : asks_are (asks_in 12800 6400 six_nested) (pair 0 0 (Some (pos 12800)) (Some (pos 6400)) ∷ pair 1 0 (Some (pos 12800)) None ∷ pair 2 0 (Some (pos 12800)) None ∷ pair 3 0 None None ∷ pair 3 0 (Some (pos 0)) None ∷ pair 4 0 None None ∷ pair 4 0 (Some (pos 0)) None ∷ pair 5 0 None None ∷ pair 5 0 (Some (pos 0)) None ∷ pair 6 0 None None ∷ pair 6 0 (Some (pos 0)) None ∷ pair 7 0 None None ∷ pair 7 0 (Some (pos 0)) None ∷ []) ≡ true
unfolding asks_in
six_nested_asks = refl

six_nested_paragraphs : paragraphs six_nested ≡ name 7 0 ∷ []
six_nested_paragraphs = refl

-- A box that fills its containing block asks none of its children for their contributions.
abbrev a_box_that_fills : Boxes
a_box_that_fills =
    box (name 0 0) root_style blocks (box (name 1 0) plain blocks (box (name 2 0) plain blocks (box (name 3 0) plain (inline ((item.text 4 (97 ∷ 98 ∷ []) plain) ∷ [])) no_boxes no_boxes) no_boxes) no_boxes) no_boxes

a_box_that_fills_asks : asks_are (asks_in 12800 6400 a_box_that_fills) (pair 0 0 (Some (pos 12800)) (Some (pos 6400)) ∷ pair 1 0 (Some (pos 12800)) None ∷ pair 2 0 (Some (pos 12800)) None ∷ pair 3 0 (Some (pos 12800)) None ∷ []) ≡ true
unfolding asks_in
a_box_that_fills_asks = refl

a_box_that_fills_paragraphs : paragraphs a_box_that_fills ≡ name 3 0 ∷ []
a_box_that_fills_paragraphs = refl

-- Inline-blocks inside one another are measured alone from the outermost one, then put in it.
abbrev atoms_in_an_atom : Boxes
atoms_in_an_atom =
    box (name 0 0) root_style blocks (box (name 1 0) plain (inline ((atom (name 2 0)) ∷ [])) (box (name 2 0) atom_style (inline ((item.text 3 (97 ∷ []) atom_style) ∷ (atom (name 4 0)) ∷ [])) (box (name 4 0) atom_style (inline ((item.text 5 (98 ∷ []) atom_style) ∷ [])) no_boxes no_boxes) no_boxes) no_boxes) no_boxes

atoms_in_an_atom_asks : asks_are (asks_in 12800 6400 atoms_in_an_atom) (pair 0 0 (Some (pos 12800)) (Some (pos 6400)) ∷ pair 1 0 (Some (pos 12800)) None ∷ pair 2 0 (Some (pos 12800)) None ∷ pair 4 0 None None ∷ pair 4 0 (Some (pos 1024)) None ∷ []) ≡ true
unfolding asks_in
atoms_in_an_atom_asks = refl

atoms_in_an_atom_paragraphs : paragraphs atoms_in_an_atom ≡ name 1 0 ∷ name 2 0 ∷ name 4 0 ∷ []
atoms_in_an_atom_paragraphs = refl

-- An inline-block of a given size is laid out once, with what is in it.
abbrev an_atom_of_a_given_size : Boxes
an_atom_of_a_given_size =
    box (name 0 0) root_style blocks (box (name 1 0) plain (inline ((atom (name 2 0)) ∷ [])) (box (name 2 0) (record atom_style { width = (length 1280) }) (inline ((item.text 3 (97 ∷ []) (record atom_style { width = (length 1280) })) ∷ (atom (name 4 0)) ∷ [])) (box (name 4 0) atom_style (inline ((item.text 5 (98 ∷ []) atom_style) ∷ [])) no_boxes no_boxes) no_boxes) no_boxes) no_boxes

an_atom_of_a_given_size_asks : asks_are (asks_in 12800 6400 an_atom_of_a_given_size) (pair 0 0 (Some (pos 12800)) (Some (pos 6400)) ∷ pair 1 0 (Some (pos 12800)) None ∷ pair 2 0 (Some (pos 12800)) None ∷ pair 4 0 (Some (pos 1280)) None ∷ []) ≡ true
unfolding asks_in
an_atom_of_a_given_size_asks = refl

an_atom_of_a_given_size_paragraphs : paragraphs an_atom_of_a_given_size ≡ name 1 0 ∷ name 2 0 ∷ name 4 0 ∷ []
an_atom_of_a_given_size_paragraphs = refl

-- A share of a block size that is definite is handed on, also where the inline size is not known.
abbrev a_share_of_a_block_size : Boxes
a_share_of_a_block_size =
    box (name 0 0) root_style blocks (box (name 1 0) plain blocks (box (name 2 0) (record plain { height = (length 2560) }) (inline ((atom (name 3 0)) ∷ [])) (box (name 3 0) (record atom_style { height = (percent 50) }) blocks (box (name 4 0) (record root_style { mode = modes.VerticalRl }) (inline ((item.text 5 (97 ∷ []) (record root_style { mode = modes.VerticalRl })) ∷ [])) no_boxes no_boxes) no_boxes) no_boxes) no_boxes) no_boxes

a_share_of_a_block_size_asks : asks_are (asks_in 12800 6400 a_share_of_a_block_size) (pair 0 0 (Some (pos 12800)) (Some (pos 6400)) ∷ pair 1 0 (Some (pos 12800)) None ∷ pair 2 0 (Some (pos 12800)) None ∷ pair 3 0 (Some (pos 12800)) (Some (pos 2560)) ∷ pair 4 0 None (Some (pos 1280)) ∷ pair 4 0 (Some (pos 1024)) (Some (pos 1280)) ∷ []) ≡ true
unfolding asks_in
a_share_of_a_block_size_asks = refl

a_share_of_a_block_size_paragraphs : paragraphs a_share_of_a_block_size ≡ name 2 0 ∷ name 4 0 ∷ []
a_share_of_a_block_size_paragraphs = refl

-- A turned box asks for the contributions of its children; a paragraph has none but its inline-blocks.
abbrev a_turned_paragraph : Boxes
a_turned_paragraph =
    box (name 0 0) root_style blocks (box (name 1 0) plain blocks (box (name 2 0) (record root_style { mode = modes.VerticalRl }) (inline ((item.text 3 (97 ∷ 98 ∷ []) (record root_style { mode = modes.VerticalRl })) ∷ (atom (name 4 0)) ∷ [])) (box (name 4 0) (record atom_style { mode = modes.VerticalRl }) (inline ((item.text 5 (99 ∷ []) (record atom_style { mode = modes.VerticalRl })) ∷ [])) no_boxes no_boxes) no_boxes) no_boxes) no_boxes

a_turned_paragraph_asks : asks_are (asks_in 12800 6400 a_turned_paragraph) (pair 0 0 (Some (pos 12800)) (Some (pos 6400)) ∷ pair 1 0 (Some (pos 12800)) None ∷ pair 2 0 (Some (pos 12800)) None ∷ pair 4 0 None None ∷ pair 4 0 (Some (pos 1536)) None ∷ []) ≡ true
unfolding asks_in
a_turned_paragraph_asks = refl

a_turned_paragraph_paragraphs : paragraphs a_turned_paragraph ≡ name 2 0 ∷ name 4 0 ∷ []
a_turned_paragraph_paragraphs = refl

-- A box that is measured and put under sizes that are the same is one pair.
abbrev twice_the_same_size : Boxes
twice_the_same_size =
    box (name 0 0) root_style blocks (box (name 1 0) plain blocks (box (name 2 0) (record root_style { mode = modes.VerticalRl }) blocks (box (name 3 0) (record root_style { width = (length 1280) }) blocks (box (name 4 0) plain (inline ((item.text 5 (97 ∷ []) plain) ∷ [])) no_boxes no_boxes) no_boxes) no_boxes) no_boxes) no_boxes

twice_the_same_size_asks : asks_are (asks_in 12800 6400 twice_the_same_size) (pair 0 0 (Some (pos 12800)) (Some (pos 6400)) ∷ pair 1 0 (Some (pos 12800)) None ∷ pair 2 0 (Some (pos 12800)) None ∷ pair 3 0 None None ∷ pair 3 0 (Some (pos 1024)) None ∷ pair 4 0 (Some (pos 1280)) None ∷ []) ≡ true
unfolding asks_in
twice_the_same_size_asks = refl

twice_the_same_size_paragraphs : paragraphs twice_the_same_size ≡ name 4 0 ∷ []
twice_the_same_size_paragraphs = refl

-- The root of a page in vertical-rl: the view is told in its mode.
abbrev a_page_that_is_turned : Boxes
a_page_that_is_turned =
    box (name 0 0) (record root_style { mode = modes.VerticalRl }) blocks (box (name 1 0) (record plain { mode = modes.VerticalRl }) blocks (box (name 2 0) (record plain { mode = modes.VerticalRl }) blocks (box (name 3 0) root_style (inline ((item.text 4 (97 ∷ []) root_style) ∷ [])) no_boxes no_boxes) no_boxes) no_boxes) no_boxes

a_page_that_is_turned_asks : asks_are (asks_in 12800 6400 a_page_that_is_turned) (pair 0 0 (Some (pos 12800)) (Some (pos 6400)) ∷ pair 1 0 (Some (pos 12800)) None ∷ pair 2 0 (Some (pos 12800)) None ∷ pair 3 0 (Some (pos 12800)) None ∷ []) ≡ true
unfolding asks_in
a_page_that_is_turned_asks = refl

a_page_that_is_turned_paragraphs : paragraphs a_page_that_is_turned ≡ name 3 0 ∷ []
a_page_that_is_turned_paragraphs = refl

-- Text beside a block stands in an anonymous block, which is asked as any other.
abbrev an_anonymous_block : Boxes
an_anonymous_block =
    box (name 0 0) root_style blocks (box (name 1 0) plain blocks (box (name 1 1) plain (inline ((item.text 2 (97 ∷ 98 ∷ []) plain) ∷ [])) no_boxes (box (name 3 0) plain (inline ((item.text 4 (99 ∷ []) plain) ∷ [])) no_boxes (box (name 1 2) plain (inline ((item.text 5 (100 ∷ []) plain) ∷ [])) no_boxes no_boxes))) no_boxes) no_boxes

an_anonymous_block_asks : asks_are (asks_in 12800 6400 an_anonymous_block) (pair 0 0 (Some (pos 12800)) (Some (pos 6400)) ∷ pair 1 0 (Some (pos 12800)) None ∷ pair 1 1 (Some (pos 12800)) None ∷ pair 1 2 (Some (pos 12800)) None ∷ pair 3 0 (Some (pos 12800)) None ∷ []) ≡ true
unfolding asks_in
an_anonymous_block_asks = refl

an_anonymous_block_paragraphs : paragraphs an_anonymous_block ≡ name 1 1 ∷ name 3 0 ∷ name 1 2 ∷ []
an_anonymous_block_paragraphs = refl
