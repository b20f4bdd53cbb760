-- Some lines, computed.
use Rattle.std.specs.Prelude.{◌≡◌, refl, [], ◌∷◌, Some, None}
use Rattle.wm_chars.specs.Pairs.{bracket}
use Rattle.wm_chars.specs.Repertoire.{bidi_class, row_of}
use Rattle.wm_chars.specs.declared.classes.BidiClass.TheVariants.{L, R, EN, B, S, WS, RLE, FSI, PDI}
use Rattle.bidi_explicit.specs.Explicit.{explicit_levels, explicit_classes}
use Rattle.bidi_explicit.specs.Sequences.{isolating_runs}
use Rattle.bidi_resolve.specs.Paragraph.{paragraph_levels, text_levels}
use Rattle.bidi_resolve.specs.Sequence.{weak, resolved, sequence_classes, sequence_levels}
use Rattle.bidi_order.specs.Line.{line_order, text_line_order}
use Rattle.bidi_order.specs.Reversals.{order}
use Rattle.bidi_order.specs.Blanks.{reset}

two_letters_and_a_number : order (1 ∷ 1 ∷ 2 ∷ 2 ∷ 2 ∷ []) ≡ (2 ∷ 3 ∷ 4 ∷ 1 ∷ 0 ∷ [])
unfolding order
two_letters_and_a_number = refl

one_direction : order (0 ∷ 0 ∷ 0 ∷ []) ≡ (0 ∷ 1 ∷ 2 ∷ [])
unfolding order
one_direction = refl

even_levels_alone : order (2 ∷ 2 ∷ 0 ∷ 2 ∷ []) ≡ (0 ∷ 1 ∷ 2 ∷ 3 ∷ [])
unfolding order
even_levels_alone = refl

nested : order (0 ∷ 3 ∷ 4 ∷ 5 ∷ 2 ∷ []) ≡ (0 ∷ 2 ∷ 3 ∷ 1 ∷ 4 ∷ [])
unfolding order
nested = refl

highest : order (1 ∷ 126 ∷ 125 ∷ 126 ∷ 0 ∷ []) ≡ (3 ∷ 2 ∷ 1 ∷ 0 ∷ 4 ∷ [])
unfolding order
highest = refl

lower_between : order (3 ∷ 3 ∷ 1 ∷ 2 ∷ 2 ∷ []) ≡ (3 ∷ 4 ∷ 2 ∷ 1 ∷ 0 ∷ [])
unfolding order
lower_between = refl

nothing : order ([]) ≡ ([])
unfolding order
nothing = refl

blanks_before_a_tab : reset 1 (2 ∷ 2 ∷ 2 ∷ 3 ∷ 3 ∷ 3 ∷ []) (L ∷ WS ∷ S ∷ R ∷ WS ∷ WS ∷ []) ≡ (2 ∷ 1 ∷ 1 ∷ 3 ∷ 1 ∷ 1 ∷ [])
unfolding reset
blanks_before_a_tab = refl

controls_at_the_end : reset 1 (2 ∷ 2 ∷ 2 ∷ 4 ∷ 2 ∷ 2 ∷ []) (WS ∷ RLE ∷ FSI ∷ EN ∷ PDI ∷ B ∷ []) ≡ (2 ∷ 2 ∷ 2 ∷ 4 ∷ 1 ∷ 1 ∷ [])
unfolding reset
controls_at_the_end = refl

blanks_inside : reset 1 (3 ∷ 3 ∷ 3 ∷ 3 ∷ 3 ∷ 2 ∷ []) (WS ∷ PDI ∷ S ∷ FSI ∷ WS ∷ L ∷ []) ≡ (1 ∷ 1 ∷ 1 ∷ 3 ∷ 3 ∷ 2 ∷ [])
unfolding reset
blanks_inside = refl

-- ---- lines of a text

-- the number in the isolate keeps its order, and the Hebrew letters round it stand from right to left
line_with_isolate : text_line_order (0x78 ∷ 0x2067 ∷ 0x5D0 ∷ 0x5D1 ∷ 0x28 ∷ 0x31 ∷ 0x29 ∷ 0x2069 ∷ 0x32 ∷ []) (Some 0) 0 9 ≡ (0 ∷ 1 ∷ 6 ∷ 5 ∷ 4 ∷ 3 ∷ 2 ∷ 7 ∷ 8 ∷ [])
unfolding bidi_class row_of bracket weak resolved sequence_classes sequence_levels explicit_levels explicit_classes isolating_runs paragraph_levels text_levels reset order line_order text_line_order
line_with_isolate = refl

-- a space between two Hebrew letters, in one line with both of them, and at the end of a line
line_with_space : text_line_order (0x61 ∷ 0x5D0 ∷ 0x20 ∷ 0x5D1 ∷ 0x62 ∷ []) (Some 0) 0 5 ≡ (0 ∷ 3 ∷ 2 ∷ 1 ∷ 4 ∷ [])
unfolding bidi_class row_of bracket weak resolved sequence_classes sequence_levels explicit_levels explicit_classes isolating_runs paragraph_levels text_levels reset order line_order text_line_order
line_with_space = refl

line_before_space : text_line_order (0x61 ∷ 0x5D0 ∷ 0x20 ∷ 0x5D1 ∷ 0x62 ∷ []) (Some 0) 0 3 ≡ (0 ∷ 1 ∷ 2 ∷ [])
unfolding bidi_class row_of bracket weak resolved sequence_classes sequence_levels explicit_levels explicit_classes isolating_runs paragraph_levels text_levels reset order line_order text_line_order
line_before_space = refl

-- a line from the middle of a text on
line_behind : text_line_order (0x5D0 ∷ 0x20 ∷ 0x31 ∷ 0x32 ∷ 0x20 ∷ 0x5D1 ∷ []) None 2 6 ≡ (5 ∷ 4 ∷ 2 ∷ 3 ∷ [])
unfolding bidi_class row_of bracket weak resolved sequence_classes sequence_levels explicit_levels explicit_classes isolating_runs paragraph_levels text_levels reset order line_order text_line_order
line_behind = refl

-- what X9 removes doesn't part the two letters, though it has the base level
line_without_removed : text_line_order (0x5D0 ∷ 0x202B ∷ 0x5D1 ∷ []) (Some 0) 0 3 ≡ (2 ∷ 0 ∷ [])
unfolding bidi_class row_of bracket weak resolved sequence_classes sequence_levels explicit_levels explicit_classes isolating_runs paragraph_levels text_levels reset order line_order text_line_order
line_without_removed = refl
