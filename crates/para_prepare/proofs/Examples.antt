-- Paragraphs with what an independent implementation prepared of them, by computation.
use Rattle.std.specs.Prelude.{◌≡◌, refl, true, false, [], ◌∷◌, List, Option, Some, None, pos}
use Rattle.face_api.specs.Kinds.{mono_table, wide_table, first_table}
use Rattle.face_api.specs.Living.{used_table}
use Rattle.face_api.specs.Table.{Table, advance_of}
use Rattle.wm_modes.specs.declared.mode.Direction.TheVariants as directions
use Rattle.wm_modes.specs.declared.mode.WritingMode.TheVariants as modes
use Rattle.wm_chars.specs.declared.classes.BidiClass.TheVariants as classes
use Rattle.wm_chars.specs.Repertoire.{row_of, bidi_class, break_class, orientation}
use Rattle.wm_chars.specs.Pairs.{mirror, bracket}
use Rattle.fragment_types.specs.declared.breaking.Breaking.TheVariants.{No, May, Must}
use Rattle.style_types.specs.declared.style.Combine.TheVariants as combines
use Rattle.style_types.specs.declared.style.TextOrientation.TheVariants as orientations
use Rattle.style_types.specs.declared.style.UnicodeBidi.TheVariants as bidis
use Rattle.fragment_types.specs.declared.unit_kind.UnitKind.TheVariants as kinds
use Rattle.style_types.specs.Initial.{initial}
use Rattle.fragment_types.specs.Item as item
use Rattle.fragment_types.specs.Item.{begins, ends, atom}
use Rattle.cluster_units.specs.Cluster.{unit_clusters}
use Rattle.cluster_units.specs.Unit.{units_of}
use Rattle.bidi_explicit.specs.Explicit.{explicit_levels, explicit_classes}
use Rattle.bidi_explicit.specs.Sequences.{isolating_runs}
use Rattle.bidi_order.specs.Visual.{visual_order}
use Rattle.bidi_order.specs.Blanks.{reset}
use Rattle.bidi_order.specs.Reversals.{order}
use Rattle.bidi_resolve.specs.Paragraph.{paragraph_levels}
use Rattle.bidi_resolve.specs.Sequence.{weak, resolved, sequence_classes, sequence_levels}
use Rattle.para_prepare.specs.declared.item.PreparedContent.TheVariants.{Unit, Combined, Atom, Break}
use Rattle.para_prepare.specs.BidiText.{bidi_texts}
use Rattle.para_prepare.specs.Boxes.{taking_part}
use Rattle.para_prepare.specs.Inside.{inside}
use Rattle.para_prepare.specs.Content.{parts}
use Rattle.para_prepare.specs.Preparation.{preparation}
use Rattle.para_prepare.specs.White.{marks}
use Rattle.unicode_segmentation.proofs.Computing.{unicode_segmentation}

abbrev faces : List (Option Table)
faces = Some mono_table ∷ Some wide_table ∷ Some first_table ∷ []

-- an override of the container from right to left: the space beside controls at the start falls away, the brackets are mirrored
override_of_the_container : preparation faces (Some 1) (record initial { mode = modes.VerticalLr; direction = directions.Rtl; orientation = orientations.Sideways; bidi = bidis.BidiOverride }) (item.text 3 (216 ∷ 156 ∷ 32 ∷ 226 ∷ 129 ∷ 169 ∷ 93 ∷ 239 ∷ 188 ∷ 136 ∷ 215 ∷ 144 ∷ 215 ∷ 145 ∷ 32 ∷ []) (record initial { mode = modes.VerticalLr; direction = directions.Rtl; orientation = orientations.Sideways; bidi = bidis.BidiOverride }) ∷ []) ≡ record { items = (record { source = 0; apart = None; what = Unit kinds.Turned false 3 3 4 (pos 512) ((91 ∷ []) ∷ []) } ∷ record { source = 0; apart = None; what = Unit kinds.Turned false 3 4 5 (pos 1024) ((65289 ∷ []) ∷ []) } ∷ record { source = 0; apart = None; what = Unit kinds.Turned false 3 5 6 (pos 512) ((1488 ∷ []) ∷ []) } ∷ record { source = 0; apart = None; what = Unit kinds.Turned false 3 6 7 (pos 512) ((1489 ∷ []) ∷ []) } ∷ []); levels = (3 ∷ 3 ∷ 3 ∷ 3 ∷ []); classes = (classes.ON ∷ classes.ON ∷ classes.R ∷ classes.R ∷ []); bases = (1 ∷ 1 ∷ 1 ∷ 1 ∷ []); breaks = (No ∷ No ∷ No ∷ No ∷ []) }
unfolding preparation parts marks taking_part bidi_texts inside visual_order reset order paragraph_levels explicit_levels explicit_classes isolating_runs weak resolved sequence_classes sequence_levels units_of unit_clusters advance_of used_table row_of bidi_class break_class orientation mirror bracket initial unicode_segmentation
override_of_the_container = refl

-- plaintext: the base level is that of the first strong character, line by line
each_bidi_paragraph_by_its_first_strong_character : preparation faces None (record initial { mode = modes.SidewaysLr; orientation = orientations.Upright; bidi = bidis.Plaintext }) (item.text 3 (226 ∷ 128 ∷ 171 ∷ []) (record initial { mode = modes.SidewaysLr; orientation = orientations.Upright; bidi = bidis.Plaintext }) ∷ item.line_break 4 ∷ item.text 5 (215 ∷ 144 ∷ 215 ∷ 145 ∷ 49 ∷ 50 ∷ 51 ∷ 52 ∷ []) (record initial { mode = modes.SidewaysLr; orientation = orientations.Upright; bidi = bidis.Plaintext }) ∷ atom (record { node = 6; ordinal = 0 }) ∷ []) ≡ record { items = (record { source = 1; apart = None; what = Break 4 } ∷ record { source = 2; apart = None; what = Unit kinds.Along false 5 0 1 (pos 512) ((1488 ∷ []) ∷ []) } ∷ record { source = 2; apart = None; what = Unit kinds.Along false 5 1 2 (pos 512) ((1489 ∷ []) ∷ []) } ∷ record { source = 2; apart = None; what = Unit kinds.Along false 5 2 3 (pos 512) ((49 ∷ []) ∷ []) } ∷ record { source = 2; apart = None; what = Unit kinds.Along false 5 3 4 (pos 512) ((50 ∷ []) ∷ []) } ∷ record { source = 2; apart = None; what = Unit kinds.Along false 5 4 5 (pos 512) ((51 ∷ []) ∷ []) } ∷ record { source = 2; apart = None; what = Unit kinds.Along false 5 5 6 (pos 512) ((52 ∷ []) ∷ []) } ∷ record { source = 3; apart = None; what = Atom (record { node = 6; ordinal = 0 }) } ∷ []); levels = (0 ∷ 1 ∷ 1 ∷ 2 ∷ 2 ∷ 2 ∷ 2 ∷ 1 ∷ []); classes = (classes.B ∷ classes.R ∷ classes.R ∷ classes.EN ∷ classes.EN ∷ classes.EN ∷ classes.EN ∷ classes.ON ∷ []); bases = (0 ∷ 1 ∷ 1 ∷ 1 ∷ 1 ∷ 1 ∷ 1 ∷ 1 ∷ []); breaks = (Must ∷ No ∷ No ∷ No ∷ No ∷ No ∷ May ∷ No ∷ []) }
unfolding preparation parts marks taking_part bidi_texts inside visual_order reset order paragraph_levels explicit_levels explicit_classes isolating_runs weak resolved sequence_classes sequence_levels units_of unit_clusters advance_of used_table row_of bidi_class break_class orientation mirror bracket initial unicode_segmentation
each_bidi_paragraph_by_its_first_strong_character = refl

-- the white space at the start of a paragraph isn't kept; an atom stands in a box, beside an empty one
white_space_alone_before_an_atom : preparation faces (Some 0) (record initial { mode = modes.VerticalLr; direction = directions.Rtl; orientation = orientations.Upright; bidi = bidis.IsolateOverride }) (item.text 3 (9 ∷ 32 ∷ []) (record initial { mode = modes.VerticalLr; direction = directions.Rtl; orientation = orientations.Upright; bidi = bidis.IsolateOverride }) ∷ begins 4 (record initial { mode = modes.VerticalLr; direction = directions.Rtl; orientation = orientations.Upright }) true ∷ begins 5 (record initial { mode = modes.VerticalLr; direction = directions.Rtl; orientation = orientations.Upright; combine = combines.All }) true ∷ ends 5 true ∷ atom (record { node = 6; ordinal = 0 }) ∷ ends 4 true ∷ []) ≡ record { items = (record { source = 4; apart = None; what = Atom (record { node = 6; ordinal = 0 }) } ∷ []); levels = (2 ∷ []); classes = (classes.ON ∷ []); bases = (0 ∷ []); breaks = (No ∷ []) }
unfolding preparation parts marks taking_part bidi_texts inside visual_order reset order paragraph_levels explicit_levels explicit_classes isolating_runs weak resolved sequence_classes sequence_levels units_of unit_clusters advance_of used_table row_of bidi_class break_class orientation mirror bracket initial unicode_segmentation
white_space_alone_before_an_atom = refl

-- two atoms and a space in an isolate from left to right, in a paragraph from right to left; the bracket behind it is mirrored
atoms_in_an_isolate : preparation faces (Some 1) (record initial { mode = modes.VerticalRl; direction = directions.Rtl }) (begins 3 (record initial { mode = modes.VerticalRl; bidi = bidis.Isolate; face = 2 }) true ∷ atom (record { node = 4; ordinal = 0 }) ∷ atom (record { node = 5; ordinal = 0 }) ∷ item.text 7 (32 ∷ 10 ∷ []) (record initial { mode = modes.VerticalRl; bidi = bidis.Isolate; face = 2 }) ∷ ends 3 true ∷ item.text 8 (227 ∷ 128 ∷ 141 ∷ []) (record initial { mode = modes.VerticalRl; direction = directions.Rtl }) ∷ []) ≡ record { items = (record { source = 1; apart = None; what = Atom (record { node = 4; ordinal = 0 }) } ∷ record { source = 2; apart = None; what = Atom (record { node = 5; ordinal = 0 }) } ∷ record { source = 3; apart = None; what = Unit kinds.Turned true 7 0 1 (pos 512) ((32 ∷ []) ∷ []) } ∷ record { source = 5; apart = (Some 1); what = Unit kinds.Upright false 8 0 1 (pos 1024) ((12300 ∷ []) ∷ []) } ∷ []); levels = (2 ∷ 2 ∷ 2 ∷ 1 ∷ []); classes = (classes.ON ∷ classes.ON ∷ classes.WS ∷ classes.ON ∷ []); bases = (1 ∷ 1 ∷ 1 ∷ 1 ∷ []); breaks = (May ∷ No ∷ No ∷ No ∷ []) }
unfolding preparation parts marks taking_part bidi_texts inside visual_order reset order paragraph_levels explicit_levels explicit_classes isolating_runs weak resolved sequence_classes sequence_levels units_of unit_clusters advance_of used_table row_of bidi_class break_class orientation mirror bracket initial unicode_segmentation
atoms_in_an_isolate = refl

-- a line break stands at the base level, under an override too
a_line_break_under_an_override : preparation faces (Some 0) (record initial { mode = modes.VerticalLr; bidi = bidis.BidiOverride }) (item.text 3 (226 ∷ 128 ∷ 172 ∷ 44 ∷ 226 ∷ 129 ∷ 167 ∷ 215 ∷ 146 ∷ 204 ∷ 129 ∷ []) (record initial { mode = modes.VerticalLr; bidi = bidis.BidiOverride }) ∷ item.line_break 4 ∷ []) ≡ record { items = (record { source = 0; apart = None; what = Unit kinds.Turned false 3 1 2 (pos 512) ((44 ∷ []) ∷ []) } ∷ record { source = 0; apart = (Some 0); what = Unit kinds.Turned false 3 3 5 (pos 512) ((1490 ∷ 769 ∷ []) ∷ []) } ∷ record { source = 1; apart = None; what = Break 4 } ∷ []); levels = (0 ∷ 1 ∷ 0 ∷ []); classes = (classes.CS ∷ classes.NSM ∷ classes.B ∷ []); bases = (0 ∷ 0 ∷ 0 ∷ []); breaks = (No ∷ No ∷ Must ∷ []) }
unfolding preparation parts marks taking_part bidi_texts inside visual_order reset order paragraph_levels explicit_levels explicit_classes isolating_runs weak resolved sequence_classes sequence_levels units_of unit_clusters advance_of used_table row_of bidi_class break_class orientation mirror bracket initial unicode_segmentation
a_line_break_under_an_override = refl

-- the level of a control that parts two items
a_control_before_an_atom : preparation faces (Some 1) (record initial { direction = directions.Rtl; bidi = bidis.BidiOverride }) (item.text 3 (109 ∷ 226 ∷ 129 ∷ 167 ∷ 234 ∷ 176 ∷ 128 ∷ []) (record initial { direction = directions.Rtl; bidi = bidis.BidiOverride }) ∷ atom (record { node = 4; ordinal = 0 }) ∷ []) ≡ record { items = (record { source = 0; apart = None; what = Unit kinds.Along false 3 0 1 (pos 512) ((109 ∷ []) ∷ []) } ∷ record { source = 0; apart = (Some 3); what = Unit kinds.Along false 3 2 3 (pos 1024) ((44032 ∷ []) ∷ []) } ∷ record { source = 1; apart = None; what = Atom (record { node = 4; ordinal = 0 }) } ∷ []); levels = (3 ∷ 6 ∷ 5 ∷ []); classes = (classes.L ∷ classes.L ∷ classes.ON ∷ []); bases = (1 ∷ 1 ∷ 1 ∷ []); breaks = (May ∷ May ∷ No ∷ []) }
unfolding preparation parts marks taking_part bidi_texts inside visual_order reset order paragraph_levels explicit_levels explicit_classes isolating_runs weak resolved sequence_classes sequence_levels units_of unit_clusters advance_of used_table row_of bidi_class break_class orientation mirror bracket initial unicode_segmentation
a_control_before_an_atom = refl

-- a bracket on an odd level is mirrored; a space with a mark is a unit, and no Space
a_mirrored_bracket : preparation faces (Some 1) (record initial { mode = modes.VerticalRl; direction = directions.Rtl; orientation = orientations.Sideways; bidi = bidis.Embed }) (item.text 3 (93 ∷ 234 ∷ 176 ∷ 128 ∷ 32 ∷ 204 ∷ 129 ∷ 226 ∷ 128 ∷ 143 ∷ 215 ∷ 144 ∷ 215 ∷ 145 ∷ 226 ∷ 128 ∷ 171 ∷ []) (record initial { mode = modes.VerticalRl; direction = directions.Rtl; orientation = orientations.Sideways; bidi = bidis.Embed }) ∷ []) ≡ record { items = (record { source = 0; apart = None; what = Unit kinds.Turned false 3 0 1 (pos 512) ((91 ∷ []) ∷ []) } ∷ record { source = 0; apart = None; what = Unit kinds.Turned false 3 1 2 (pos 1024) ((44032 ∷ []) ∷ []) } ∷ record { source = 0; apart = None; what = Unit kinds.Turned false 3 2 4 (pos 512) ((32 ∷ 769 ∷ []) ∷ []) } ∷ record { source = 0; apart = (Some 1); what = Unit kinds.Turned false 3 5 6 (pos 512) ((1488 ∷ []) ∷ []) } ∷ record { source = 0; apart = None; what = Unit kinds.Turned false 3 6 7 (pos 512) ((1489 ∷ []) ∷ []) } ∷ []); levels = (1 ∷ 2 ∷ 1 ∷ 1 ∷ 1 ∷ []); classes = (classes.ON ∷ classes.L ∷ classes.NSM ∷ classes.R ∷ classes.R ∷ []); bases = (1 ∷ 1 ∷ 1 ∷ 1 ∷ 1 ∷ []); breaks = (May ∷ May ∷ No ∷ No ∷ No ∷ []) }
unfolding preparation parts marks taking_part bidi_texts inside visual_order reset order paragraph_levels explicit_levels explicit_classes isolating_runs weak resolved sequence_classes sequence_levels units_of unit_clusters advance_of used_table row_of bidi_class break_class orientation mirror bracket initial unicode_segmentation
a_mirrored_bracket = refl

-- what controls of the text opened isn't opened again after a line break
a_line_break_ends_what_controls_opened : preparation faces (Some 1) (record initial { mode = modes.SidewaysLr; direction = directions.Rtl; bidi = bidis.IsolateOverride }) (item.text 3 (226 ∷ 128 ∷ 171 ∷ 97 ∷ 98 ∷ 226 ∷ 129 ∷ 166 ∷ 226 ∷ 128 ∷ 171 ∷ []) (record initial { mode = modes.SidewaysLr; direction = directions.Rtl; bidi = bidis.IsolateOverride }) ∷ item.line_break 4 ∷ item.text 5 (217 ∷ 161 ∷ []) (record initial { mode = modes.SidewaysLr; direction = directions.Rtl; bidi = bidis.IsolateOverride }) ∷ []) ≡ record { items = (record { source = 0; apart = None; what = Unit kinds.Along false 3 1 2 (pos 512) ((97 ∷ []) ∷ []) } ∷ record { source = 0; apart = None; what = Unit kinds.Along false 3 2 3 (pos 512) ((98 ∷ []) ∷ []) } ∷ record { source = 1; apart = (Some 5); what = Break 4 } ∷ record { source = 2; apart = None; what = Unit kinds.Along false 5 0 1 (pos 512) ((1633 ∷ []) ∷ []) } ∷ []); levels = (6 ∷ 6 ∷ 1 ∷ 3 ∷ []); classes = (classes.L ∷ classes.L ∷ classes.B ∷ classes.AN ∷ []); bases = (1 ∷ 1 ∷ 1 ∷ 1 ∷ []); breaks = (No ∷ No ∷ Must ∷ No ∷ []) }
unfolding preparation parts marks taking_part bidi_texts inside visual_order reset order paragraph_levels explicit_levels explicit_classes isolating_runs weak resolved sequence_classes sequence_levels units_of unit_clusters advance_of used_table row_of bidi_class break_class orientation mirror bracket initial unicode_segmentation
a_line_break_ends_what_controls_opened = refl

-- text that is set upright is strong from left to right, each character
upright_text : preparation faces (Some 0) (record initial { mode = modes.VerticalLr; direction = directions.Rtl; orientation = orientations.Upright; bidi = bidis.BidiOverride }) (item.text 3 (227 ∷ 129 ∷ 130 ∷ 217 ∷ 161 ∷ 32 ∷ []) (record initial { mode = modes.VerticalLr; direction = directions.Rtl; orientation = orientations.Upright; bidi = bidis.BidiOverride }) ∷ []) ≡ record { items = (record { source = 0; apart = None; what = Unit kinds.Upright false 3 0 1 (pos 1024) ((12354 ∷ []) ∷ []) } ∷ record { source = 0; apart = None; what = Unit kinds.Upright false 3 1 2 (pos 1024) ((1633 ∷ []) ∷ []) } ∷ []); levels = (2 ∷ 2 ∷ []); classes = (classes.L ∷ classes.L ∷ []); bases = (0 ∷ 0 ∷ []); breaks = (May ∷ No ∷ []) }
unfolding preparation parts marks taking_part bidi_texts inside visual_order reset order paragraph_levels explicit_levels explicit_classes isolating_runs weak resolved sequence_classes sequence_levels units_of unit_clusters advance_of used_table row_of bidi_class break_class orientation mirror bracket initial unicode_segmentation
upright_text = refl

-- what boxes opened is closed before a line break and opened again after it
line_breaks_in_an_isolate : preparation faces (Some 0) (record initial { orientation = orientations.Upright; bidi = bidis.Isolate; combine = combines.All }) (begins 3 (record initial { direction = directions.Rtl; bidi = bidis.IsolateOverride; combine = combines.All }) true ∷ item.text 4 (32 ∷ []) (record initial { direction = directions.Rtl; bidi = bidis.IsolateOverride; combine = combines.All }) ∷ item.line_break 5 ∷ item.text 6 (227 ∷ 128 ∷ 141 ∷ []) (record initial { direction = directions.Rtl; bidi = bidis.IsolateOverride; combine = combines.All }) ∷ item.line_break 7 ∷ item.text 8 (226 ∷ 128 ∷ 173 ∷ 43 ∷ 226 ∷ 128 ∷ 171 ∷ 49 ∷ 50 ∷ 226 ∷ 128 ∷ 174 ∷ []) (record initial { direction = directions.Rtl; bidi = bidis.IsolateOverride; combine = combines.All }) ∷ ends 3 true ∷ item.text 9 (43 ∷ 43 ∷ 32 ∷ []) (record initial { orientation = orientations.Upright; bidi = bidis.Isolate; combine = combines.All }) ∷ begins 10 (record initial { orientation = orientations.Upright; combine = combines.All }) true ∷ begins 11 (record initial { direction = directions.Rtl; orientation = orientations.Upright; bidi = bidis.Isolate; face = 2; combine = combines.All }) true ∷ ends 11 true ∷ atom (record { node = 12; ordinal = 0 }) ∷ item.text 14 (226 ∷ 128 ∷ 170 ∷ 226 ∷ 129 ∷ 168 ∷ 40 ∷ []) (record initial { orientation = orientations.Upright; combine = combines.All }) ∷ ends 10 true ∷ []) ≡ record { items = (record { source = 2; apart = None; what = Break 5 } ∷ record { source = 3; apart = None; what = Unit kinds.Along false 6 0 1 (pos 1024) ((12300 ∷ []) ∷ []) } ∷ record { source = 4; apart = (Some 0); what = Break 7 } ∷ record { source = 5; apart = None; what = Unit kinds.Along false 8 1 2 (pos 512) ((43 ∷ []) ∷ []) } ∷ record { source = 5; apart = None; what = Unit kinds.Along false 8 3 4 (pos 512) ((49 ∷ []) ∷ []) } ∷ record { source = 5; apart = None; what = Unit kinds.Along false 8 4 5 (pos 512) ((50 ∷ []) ∷ []) } ∷ record { source = 7; apart = (Some 0); what = Unit kinds.Along false 9 0 1 (pos 512) ((43 ∷ []) ∷ []) } ∷ record { source = 7; apart = None; what = Unit kinds.Along false 9 1 2 (pos 512) ((43 ∷ []) ∷ []) } ∷ record { source = 7; apart = None; what = Unit kinds.Along true 9 2 3 (pos 512) ((32 ∷ []) ∷ []) } ∷ record { source = 11; apart = None; what = Atom (record { node = 12; ordinal = 0 }) } ∷ record { source = 12; apart = (Some 2); what = Unit kinds.Along false 14 2 3 (pos 512) ((40 ∷ []) ∷ []) } ∷ []); levels = (0 ∷ 3 ∷ 0 ∷ 4 ∷ 6 ∷ 6 ∷ 0 ∷ 0 ∷ 0 ∷ 0 ∷ 4 ∷ []); classes = (classes.B ∷ classes.ON ∷ classes.B ∷ classes.ES ∷ classes.EN ∷ classes.EN ∷ classes.ES ∷ classes.ES ∷ classes.WS ∷ classes.ON ∷ classes.ON ∷ []); bases = (0 ∷ 0 ∷ 0 ∷ 0 ∷ 0 ∷ 0 ∷ 0 ∷ 0 ∷ 0 ∷ 0 ∷ 0 ∷ []); breaks = (Must ∷ No ∷ Must ∷ No ∷ No ∷ No ∷ No ∷ No ∷ May ∷ May ∷ No ∷ []) }
unfolding preparation parts marks taking_part bidi_texts inside visual_order reset order paragraph_levels explicit_levels explicit_classes isolating_runs weak resolved sequence_classes sequence_levels units_of unit_clusters advance_of used_table row_of bidi_class break_class orientation mirror bracket initial unicode_segmentation
line_breaks_in_an_isolate = refl

-- two combined runs, and the space between them, which one of two texts has; an atom behind
combined_runs_of_two_texts : preparation faces (Some 0) (record initial { mode = modes.VerticalRl; orientation = orientations.Upright; combine = combines.All }) (item.text 3 (32 ∷ 32 ∷ 105 ∷ 93 ∷ 93 ∷ 32 ∷ []) (record initial { mode = modes.VerticalRl; orientation = orientations.Upright; combine = combines.All }) ∷ item.text 5 (217 ∷ 161 ∷ 230 ∷ 157 ∷ 177 ∷ 228 ∷ 186 ∷ 172 ∷ 226 ∷ 128 ∷ 171 ∷ 204 ∷ 129 ∷ []) (record initial { mode = modes.VerticalRl; orientation = orientations.Upright; combine = combines.All }) ∷ atom (record { node = 7; ordinal = 0 }) ∷ []) ≡ record { items = (record { source = 0; apart = None; what = Combined 3 2 5 (pos 1024) (pos 1536) ((105 ∷ []) ∷ (93 ∷ []) ∷ (93 ∷ []) ∷ []) } ∷ record { source = 0; apart = None; what = Unit kinds.Upright true 3 5 6 (pos 1024) ((32 ∷ []) ∷ []) } ∷ record { source = 1; apart = None; what = Combined 5 0 5 (pos 1024) (pos 3072) ((1633 ∷ []) ∷ (26481 ∷ []) ∷ (20140 ∷ []) ∷ (769 ∷ []) ∷ []) } ∷ record { source = 2; apart = None; what = Atom (record { node = 7; ordinal = 0 }) } ∷ []); levels = (0 ∷ 0 ∷ 0 ∷ 0 ∷ []); classes = (classes.L ∷ classes.L ∷ classes.L ∷ classes.ON ∷ []); bases = (0 ∷ 0 ∷ 0 ∷ 0 ∷ []); breaks = (No ∷ May ∷ May ∷ No ∷ []) }
unfolding preparation parts marks taking_part bidi_texts inside visual_order reset order paragraph_levels explicit_levels explicit_classes isolating_runs weak resolved sequence_classes sequence_levels units_of unit_clusters advance_of used_table row_of bidi_class break_class orientation mirror bracket initial unicode_segmentation
combined_runs_of_two_texts = refl

-- a mark that X9 leaves parts a combined run from the item before it
a_control_before_a_combined_run : preparation faces (Some 0) (record initial { mode = modes.VerticalLr; direction = directions.Rtl; orientation = orientations.Upright; combine = combines.All }) (item.text 3 (194 ∷ 160 ∷ 10 ∷ 226 ∷ 128 ∷ 143 ∷ 227 ∷ 128 ∷ 141 ∷ 226 ∷ 128 ∷ 142 ∷ 204 ∷ 129 ∷ 43 ∷ 32 ∷ []) (record initial { mode = modes.VerticalLr; direction = directions.Rtl; orientation = orientations.Upright; combine = combines.All }) ∷ []) ≡ record { items = (record { source = 0; apart = None; what = Combined 3 0 1 (pos 1024) (pos 512) ((160 ∷ []) ∷ []) } ∷ record { source = 0; apart = None; what = Unit kinds.Upright true 3 1 2 (pos 1024) ((32 ∷ []) ∷ []) } ∷ record { source = 0; apart = (Some 0); what = Combined 3 3 7 (pos 1024) (pos 2048) ((12301 ∷ []) ∷ (769 ∷ []) ∷ (43 ∷ []) ∷ []) } ∷ []); levels = (0 ∷ 0 ∷ 0 ∷ []); classes = (classes.L ∷ classes.L ∷ classes.L ∷ []); bases = (0 ∷ 0 ∷ 0 ∷ []); breaks = (No ∷ May ∷ No ∷ []) }
unfolding preparation parts marks taking_part bidi_texts inside visual_order reset order paragraph_levels explicit_levels explicit_classes isolating_runs weak resolved sequence_classes sequence_levels units_of unit_clusters advance_of used_table row_of bidi_class break_class orientation mirror bracket initial unicode_segmentation
a_control_before_a_combined_run = refl

-- the inside of a combined run from right to left: in visual order, its bracket mirrored
the_inside_of_a_combined_run : preparation faces (Some 1) (record initial { mode = modes.VerticalRl; direction = directions.Rtl; bidi = bidis.Isolate; combine = combines.All }) (begins 3 (record initial { mode = modes.VerticalRl; direction = directions.Rtl; combine = combines.All }) true ∷ ends 3 true ∷ begins 4 (record initial { mode = modes.VerticalRl; direction = directions.Rtl; combine = combines.All }) true ∷ item.text 5 (105 ∷ []) (record initial { mode = modes.VerticalRl; direction = directions.Rtl; combine = combines.All }) ∷ ends 4 true ∷ item.line_break 6 ∷ item.text 7 (40 ∷ 97 ∷ 120 ∷ 204 ∷ 129 ∷ []) (record initial { mode = modes.VerticalRl; direction = directions.Rtl; bidi = bidis.Isolate; combine = combines.All }) ∷ []) ≡ record { items = (record { source = 3; apart = None; what = Combined 5 0 1 (pos 1024) (pos 512) ((105 ∷ []) ∷ []) } ∷ record { source = 5; apart = None; what = Break 6 } ∷ record { source = 6; apart = None; what = Combined 7 0 4 (pos 1024) (pos 1536) ((97 ∷ []) ∷ (120 ∷ 769 ∷ []) ∷ (41 ∷ []) ∷ []) } ∷ []); levels = (2 ∷ 1 ∷ 2 ∷ []); classes = (classes.L ∷ classes.B ∷ classes.L ∷ []); bases = (1 ∷ 1 ∷ 1 ∷ []); breaks = (No ∷ Must ∷ No ∷ []) }
unfolding preparation parts marks taking_part bidi_texts inside visual_order reset order paragraph_levels explicit_levels explicit_classes isolating_runs weak resolved sequence_classes sequence_levels units_of unit_clusters advance_of used_table row_of bidi_class break_class orientation mirror bracket initial unicode_segmentation
the_inside_of_a_combined_run = refl

-- of digits 2 two are combined, of three none
two_digits_and_three : preparation faces (Some 0) (record initial { mode = modes.VerticalRl; combine = combines.Digits 2 }) (item.text 3 (97 ∷ 49 ∷ 50 ∷ 98 ∷ 51 ∷ 52 ∷ 53 ∷ []) (record initial { mode = modes.VerticalRl; combine = combines.Digits 2 }) ∷ []) ≡ record { items = (record { source = 0; apart = None; what = Unit kinds.Turned false 3 0 1 (pos 512) ((97 ∷ []) ∷ []) } ∷ record { source = 0; apart = None; what = Combined 3 1 3 (pos 1024) (pos 1024) ((49 ∷ []) ∷ (50 ∷ []) ∷ []) } ∷ record { source = 0; apart = None; what = Unit kinds.Turned false 3 3 4 (pos 512) ((98 ∷ []) ∷ []) } ∷ record { source = 0; apart = None; what = Unit kinds.Turned false 3 4 5 (pos 512) ((51 ∷ []) ∷ []) } ∷ record { source = 0; apart = None; what = Unit kinds.Turned false 3 5 6 (pos 512) ((52 ∷ []) ∷ []) } ∷ record { source = 0; apart = None; what = Unit kinds.Turned false 3 6 7 (pos 512) ((53 ∷ []) ∷ []) } ∷ []); levels = (0 ∷ 0 ∷ 0 ∷ 0 ∷ 0 ∷ 0 ∷ []); classes = (classes.L ∷ classes.L ∷ classes.L ∷ classes.EN ∷ classes.EN ∷ classes.EN ∷ []); bases = (0 ∷ 0 ∷ 0 ∷ 0 ∷ 0 ∷ 0 ∷ []); breaks = (May ∷ May ∷ No ∷ No ∷ No ∷ No ∷ []) }
unfolding preparation parts marks taking_part bidi_texts inside visual_order reset order paragraph_levels explicit_levels explicit_classes isolating_runs weak resolved sequence_classes sequence_levels units_of unit_clusters advance_of used_table row_of bidi_class break_class orientation mirror bracket initial unicode_segmentation
two_digits_and_three = refl

-- digits of two nodes make no run together
digits_of_two_nodes : preparation faces (Some 0) (record initial { mode = modes.VerticalRl; combine = combines.Digits 2 }) (item.text 3 (49 ∷ []) (record initial { mode = modes.VerticalRl; combine = combines.Digits 2 }) ∷ begins 4 (record initial { mode = modes.VerticalRl; combine = combines.Digits 2 }) true ∷ item.text 5 (50 ∷ []) (record initial { mode = modes.VerticalRl; combine = combines.Digits 2 }) ∷ ends 4 true ∷ item.text 6 (51 ∷ []) (record initial { mode = modes.VerticalRl; combine = combines.Digits 2 }) ∷ []) ≡ record { items = (record { source = 0; apart = None; what = Combined 3 0 1 (pos 1024) (pos 512) ((49 ∷ []) ∷ []) } ∷ record { source = 2; apart = None; what = Combined 5 0 1 (pos 1024) (pos 512) ((50 ∷ []) ∷ []) } ∷ record { source = 4; apart = None; what = Combined 6 0 1 (pos 1024) (pos 512) ((51 ∷ []) ∷ []) } ∷ []); levels = (0 ∷ 0 ∷ 0 ∷ []); classes = (classes.L ∷ classes.L ∷ classes.L ∷ []); bases = (0 ∷ 0 ∷ 0 ∷ []); breaks = (May ∷ May ∷ No ∷ []) }
unfolding preparation parts marks taking_part bidi_texts inside visual_order reset order paragraph_levels explicit_levels explicit_classes isolating_runs weak resolved sequence_classes sequence_levels units_of unit_clusters advance_of used_table row_of bidi_class break_class orientation mirror bracket initial unicode_segmentation
digits_of_two_nodes = refl

-- a number that is combined stands among letters from right to left as one character; another one as its digits
digits_among_letters_from_right_to_left : preparation faces (Some 1) (record initial { mode = modes.VerticalRl; direction = directions.Rtl; combine = combines.Digits 2 }) (item.text 3 (215 ∷ 144 ∷ 49 ∷ 50 ∷ 215 ∷ 145 ∷ 51 ∷ 52 ∷ 53 ∷ []) (record initial { mode = modes.VerticalRl; direction = directions.Rtl; combine = combines.Digits 2 }) ∷ []) ≡ record { items = (record { source = 0; apart = None; what = Unit kinds.Turned false 3 0 1 (pos 512) ((1488 ∷ []) ∷ []) } ∷ record { source = 0; apart = None; what = Combined 3 1 3 (pos 1024) (pos 1024) ((49 ∷ []) ∷ (50 ∷ []) ∷ []) } ∷ record { source = 0; apart = None; what = Unit kinds.Turned false 3 3 4 (pos 512) ((1489 ∷ []) ∷ []) } ∷ record { source = 0; apart = None; what = Unit kinds.Turned false 3 4 5 (pos 512) ((51 ∷ []) ∷ []) } ∷ record { source = 0; apart = None; what = Unit kinds.Turned false 3 5 6 (pos 512) ((52 ∷ []) ∷ []) } ∷ record { source = 0; apart = None; what = Unit kinds.Turned false 3 6 7 (pos 512) ((53 ∷ []) ∷ []) } ∷ []); levels = (1 ∷ 2 ∷ 1 ∷ 2 ∷ 2 ∷ 2 ∷ []); classes = (classes.R ∷ classes.L ∷ classes.R ∷ classes.EN ∷ classes.EN ∷ classes.EN ∷ []); bases = (1 ∷ 1 ∷ 1 ∷ 1 ∷ 1 ∷ 1 ∷ []); breaks = (May ∷ May ∷ No ∷ No ∷ No ∷ No ∷ []) }
unfolding preparation parts marks taking_part bidi_texts inside visual_order reset order paragraph_levels explicit_levels explicit_classes isolating_runs weak resolved sequence_classes sequence_levels units_of unit_clusters advance_of used_table row_of bidi_class break_class orientation mirror bracket initial unicode_segmentation
digits_among_letters_from_right_to_left = refl

-- text in a sideways mode has no combined runs
digits_in_a_sideways_mode : preparation faces (Some 0) (record initial { mode = modes.SidewaysRl; combine = combines.Digits 2 }) (item.text 3 (97 ∷ 49 ∷ 50 ∷ []) (record initial { mode = modes.SidewaysRl; combine = combines.Digits 2 }) ∷ []) ≡ record { items = (record { source = 0; apart = None; what = Unit kinds.Along false 3 0 1 (pos 512) ((97 ∷ []) ∷ []) } ∷ record { source = 0; apart = None; what = Unit kinds.Along false 3 1 2 (pos 512) ((49 ∷ []) ∷ []) } ∷ record { source = 0; apart = None; what = Unit kinds.Along false 3 2 3 (pos 512) ((50 ∷ []) ∷ []) } ∷ []); levels = (0 ∷ 0 ∷ 0 ∷ []); classes = (classes.L ∷ classes.EN ∷ classes.EN ∷ []); bases = (0 ∷ 0 ∷ 0 ∷ []); breaks = (No ∷ No ∷ No ∷ []) }
unfolding preparation parts marks taking_part bidi_texts inside visual_order reset order paragraph_levels explicit_levels explicit_classes isolating_runs weak resolved sequence_classes sequence_levels units_of unit_clusters advance_of used_table row_of bidi_class break_class orientation mirror bracket initial unicode_segmentation
digits_in_a_sideways_mode = refl
