-- Paragraphs with the lines that an independent implementation gives them, by computation.
use Rattle.std.specs.Prelude.{◌≡◌, refl, true, false, [], ◌∷◌, List, Option, Some, None, pos, neg_ℤ}
use Rattle.face_api.specs.Kinds.{mono_table, wide_table, first_table}
use Rattle.face_api.specs.Living.{used_table}
use Rattle.face_api.specs.Table.{Table, advance_of}
use Rattle.wm_modes.specs.declared.mode.Direction.TheVariants as directions
use Rattle.wm_modes.specs.declared.mode.WritingMode.TheVariants as modes
use Rattle.wm_chars.specs.Repertoire.{row_of, bidi_class, break_class, orientation}
use Rattle.wm_chars.specs.Pairs.{mirror, bracket}
use Rattle.style_types.specs.declared.style.Align.TheVariants as aligns
use Rattle.style_types.specs.declared.style.Baseline.TheVariants as bases
use Rattle.style_types.specs.declared.style.Combine.TheVariants as combines
use Rattle.style_types.specs.declared.style.LineHeight.TheVariants as heights
use Rattle.style_types.specs.declared.style.TextOrientation.TheVariants as orientations
use Rattle.style_types.specs.declared.style.UnicodeBidi.TheVariants as bidis
use Rattle.fragment_types.specs.declared.unit_kind.UnitKind.TheVariants as kinds
use Rattle.fragment_types.specs.Fragment.{none, piece, block, line, span, run}
use Rattle.style_types.specs.Initial.{initial}
use Rattle.fragment_types.specs.Item as item
use Rattle.fragment_types.specs.Item.{begins, ends, atom}
use Rattle.cluster_units.specs.Cluster.{unit_clusters}
use Rattle.cluster_units.specs.Unit.{units_of}
use Rattle.bidi_explicit.specs.Explicit.{explicit_levels, explicit_classes}
use Rattle.bidi_explicit.specs.Sequences.{isolating_runs}
use Rattle.bidi_order.specs.Visual.{visual_order}
use Rattle.bidi_order.specs.Blanks.{reset}
use Rattle.bidi_order.specs.Reversals.{order}
use Rattle.bidi_resolve.specs.Paragraph.{paragraph_levels}
use Rattle.bidi_resolve.specs.Sequence.{weak, resolved, sequence_classes, sequence_levels}
use Rattle.line_place.specs.Leaves.{leaves}
use Rattle.line_place.specs.Marks.{marks as line_marks}
use Rattle.para_prepare.specs.BidiText.{bidi_texts}
use Rattle.para_prepare.specs.Boxes.{taking_part}
use Rattle.para_prepare.specs.Inside.{inside}
use Rattle.para_prepare.specs.Content.{parts}
use Rattle.para_prepare.specs.Preparation.{preparation}
use Rattle.para_prepare.specs.White.{marks}
use Rattle.para_lines.specs.Around.{box_at, chains}
use Rattle.para_lines.specs.Filling.{fill_items}
use Rattle.para_lines.specs.declared.paragraph.Container.{Container}
use Rattle.para_lines.specs.Lines.{paragraph_lines}
use Rattle.unicode_segmentation.proofs.Computing.{unicode_segmentation}

abbrev faces : List (Option Table)
faces = Some mono_table ∷ Some wide_table ∷ Some first_table ∷ []

container-0 : Container
container-0 = record { name = (record { node = 2; ordinal = 0 }); style = (record initial { mode = modes.VerticalLr; direction = directions.Rtl; align = aligns.End }); size = pos 0 }

lines-0 : paragraph_lines faces container-0 (begins 3 (record initial { mode = modes.VerticalLr; face = 1; align = aligns.End }) true ∷ ends 3 true ∷ item.text 4 (227 ∷ 128 ∷ 141 ∷ 60 ∷ 227 ∷ 128 ∷ 141 ∷ 43 ∷ []) (record initial { mode = modes.VerticalLr; direction = directions.Rtl; align = aligns.End }) ∷ atom (record { node = 5; ordinal = 0 }) ∷ item.text 6 (227 ∷ 128 ∷ 129 ∷ []) (record initial { mode = modes.VerticalLr; direction = directions.Rtl; align = aligns.End }) ∷ []) (preparation faces (Some 1) container-0.style (begins 3 (record initial { mode = modes.VerticalLr; face = 1; align = aligns.End }) true ∷ ends 3 true ∷ item.text 4 (227 ∷ 128 ∷ 141 ∷ 60 ∷ 227 ∷ 128 ∷ 141 ∷ 43 ∷ []) (record initial { mode = modes.VerticalLr; direction = directions.Rtl; align = aligns.End }) ∷ atom (record { node = 5; ordinal = 0 }) ∷ item.text 6 (227 ∷ 128 ∷ 129 ∷ []) (record initial { mode = modes.VerticalLr; direction = directions.Rtl; align = aligns.End }) ∷ [])) (record { fragment = (piece (record { node = 5; ordinal = 0 }) (record { i = pos 0; b = pos 0; inline = pos 576; block = pos 192 }) (block modes.VerticalLr directions.Rtl (record { i = pos 0; b = pos 0; inline = pos 576; block = pos 192 }) (Some (pos 192)) (record { positive = pos 0; negative = pos 0 }) (record { positive = pos 0; negative = pos 0 }) false) none none); extent = pos 576; left_margin = pos 0; over_margin = pos 0; over = pos 96; under = pos 96; shift = pos 0 } ∷ []) ≡ (piece (record { node = 2; ordinal = 0 }) (record { i = pos 0; b = pos 0; inline = pos 0; block = pos 1024 }) (line 0 (pos 512) modes.VerticalLr bases.Central) (piece (record { node = 4; ordinal = 0 }) (record { i = (neg_ℤ (pos 3072)); b = pos 0; inline = pos 512; block = pos 1024 }) (run kinds.Turned 1 None (record { first = 3; end = 4; extent = pos 512; glyphs = ((43 ∷ []) ∷ []) } ∷ [])) none (piece (record { node = 4; ordinal = 0 }) (record { i = (neg_ℤ (pos 2560)); b = pos 0; inline = pos 1024; block = pos 1024 }) (run kinds.Upright 1 None (record { first = 2; end = 3; extent = pos 1024; glyphs = ((12300 ∷ []) ∷ []) } ∷ [])) none (piece (record { node = 4; ordinal = 0 }) (record { i = (neg_ℤ (pos 1536)); b = pos 0; inline = pos 512; block = pos 1024 }) (run kinds.Turned 1 None (record { first = 1; end = 2; extent = pos 512; glyphs = ((62 ∷ []) ∷ []) } ∷ [])) none (piece (record { node = 4; ordinal = 0 }) (record { i = (neg_ℤ (pos 1024)); b = pos 0; inline = pos 1024; block = pos 1024 }) (run kinds.Upright 1 None (record { first = 0; end = 1; extent = pos 1024; glyphs = ((12300 ∷ []) ∷ []) } ∷ [])) none none)))) (piece (record { node = 2; ordinal = 0 }) (record { i = pos 0; b = pos 1024; inline = pos 0; block = pos 1024 }) (line 1 (pos 512) modes.VerticalLr bases.Central) (piece (record { node = 6; ordinal = 0 }) (record { i = (neg_ℤ (pos 1600)); b = pos 0; inline = pos 1024; block = pos 1024 }) (run kinds.Upright 1 None (record { first = 0; end = 1; extent = pos 1024; glyphs = ((12289 ∷ []) ∷ []) } ∷ [])) none (piece (record { node = 5; ordinal = 0 }) (record { i = (neg_ℤ (pos 576)); b = pos 416; inline = pos 576; block = pos 192 }) (block modes.VerticalLr directions.Rtl (record { i = pos 0; b = pos 0; inline = pos 576; block = pos 192 }) (Some (pos 192)) (record { positive = pos 0; negative = pos 0 }) (record { positive = pos 0; negative = pos 0 }) false) none none)) none))
unfolding container-0 paragraph_lines fill_items box_at chains leaves line_marks preparation parts marks taking_part bidi_texts inside visual_order reset order paragraph_levels explicit_levels explicit_classes isolating_runs weak resolved sequence_classes sequence_levels units_of unit_clusters advance_of used_table row_of bidi_class break_class orientation mirror bracket initial unicode_segmentation
lines-0 = refl

container-1 : Container
container-1 = record { name = (record { node = 2; ordinal = 0 }); style = (record initial { orientation = orientations.Sideways; bidi = bidis.Embed; align = aligns.Left }); size = pos 5760 }

lines-1 : paragraph_lines faces container-1 (item.text 3 (32 ∷ 226 ∷ 128 ∷ 172 ∷ 215 ∷ 146 ∷ 204 ∷ 129 ∷ 226 ∷ 128 ∷ 172 ∷ 194 ∷ 160 ∷ 109 ∷ 32 ∷ 32 ∷ 91 ∷ []) (record initial { orientation = orientations.Sideways; bidi = bidis.Embed; align = aligns.Left }) ∷ begins 4 (record initial { direction = directions.Rtl; orientation = orientations.Sideways; bidi = bidis.BidiOverride; font_size = pos 640; align = aligns.Left }) true ∷ atom (record { node = 5; ordinal = 0 }) ∷ item.text 6 (32 ∷ []) (record initial { direction = directions.Rtl; orientation = orientations.Sideways; bidi = bidis.BidiOverride; font_size = pos 640; align = aligns.Left }) ∷ ends 4 true ∷ item.text 8 (9 ∷ 32 ∷ []) (record initial { orientation = orientations.Sideways; bidi = bidis.Embed; align = aligns.Left }) ∷ []) (preparation faces (Some 0) container-1.style (item.text 3 (32 ∷ 226 ∷ 128 ∷ 172 ∷ 215 ∷ 146 ∷ 204 ∷ 129 ∷ 226 ∷ 128 ∷ 172 ∷ 194 ∷ 160 ∷ 109 ∷ 32 ∷ 32 ∷ 91 ∷ []) (record initial { orientation = orientations.Sideways; bidi = bidis.Embed; align = aligns.Left }) ∷ begins 4 (record initial { direction = directions.Rtl; orientation = orientations.Sideways; bidi = bidis.BidiOverride; font_size = pos 640; align = aligns.Left }) true ∷ atom (record { node = 5; ordinal = 0 }) ∷ item.text 6 (32 ∷ []) (record initial { direction = directions.Rtl; orientation = orientations.Sideways; bidi = bidis.BidiOverride; font_size = pos 640; align = aligns.Left }) ∷ ends 4 true ∷ item.text 8 (9 ∷ 32 ∷ []) (record initial { orientation = orientations.Sideways; bidi = bidis.Embed; align = aligns.Left }) ∷ [])) (record { fragment = (piece (record { node = 5; ordinal = 0 }) (record { i = pos 0; b = pos 0; inline = pos 576; block = pos 192 }) (block modes.HorizontalTb directions.Rtl (record { i = pos 0; b = pos 0; inline = pos 576; block = pos 192 }) (Some (pos 192)) (record { positive = pos 0; negative = pos 0 }) (record { positive = pos 0; negative = pos 0 }) false) none none); extent = pos 576; left_margin = pos 0; over_margin = pos 0; over = pos 192; under = pos 0; shift = pos 0 } ∷ []) ≡ (piece (record { node = 2; ordinal = 0 }) (record { i = pos 0; b = pos 0; inline = pos 5760; block = pos 1024 }) (line 0 (pos 768) modes.HorizontalTb bases.Alphabetic) (piece (record { node = 3; ordinal = 0 }) (record { i = pos 0; b = pos 0; inline = pos 512; block = pos 1024 }) (run kinds.Along 1 None (record { first = 2; end = 4; extent = pos 512; glyphs = ((1490 ∷ 769 ∷ []) ∷ []) } ∷ [])) none (piece (record { node = 3; ordinal = 0 }) (record { i = pos 512; b = pos 0; inline = pos 2048; block = pos 1024 }) (run kinds.Along 0 None (record { first = 5; end = 6; extent = pos 512; glyphs = ((160 ∷ []) ∷ []) } ∷ record { first = 6; end = 7; extent = pos 512; glyphs = ((109 ∷ []) ∷ []) } ∷ record { first = 7; end = 8; extent = pos 512; glyphs = ((32 ∷ []) ∷ []) } ∷ record { first = 9; end = 10; extent = pos 512; glyphs = ((91 ∷ []) ∷ []) } ∷ [])) none (piece (record { node = 4; ordinal = 0 }) (record { i = pos 2560; b = pos 288; inline = pos 576; block = pos 640 }) span (piece (record { node = 5; ordinal = 0 }) (record { i = pos 2560; b = pos 576; inline = pos 576; block = pos 192 }) (block modes.HorizontalTb directions.Rtl (record { i = pos 0; b = pos 0; inline = pos 576; block = pos 192 }) (Some (pos 192)) (record { positive = pos 0; negative = pos 0 }) (record { positive = pos 0; negative = pos 0 }) false) none none) none))) none)
unfolding container-1 paragraph_lines fill_items box_at chains leaves line_marks preparation parts marks taking_part bidi_texts inside visual_order reset order paragraph_levels explicit_levels explicit_classes isolating_runs weak resolved sequence_classes sequence_levels units_of unit_clusters advance_of used_table row_of bidi_class break_class orientation mirror bracket initial unicode_segmentation
lines-1 = refl

container-2 : Container
container-2 = record { name = (record { node = 2; ordinal = 0 }); style = (record initial { mode = modes.SidewaysRl; orientation = orientations.Upright; bidi = bidis.BidiOverride; align = aligns.Center }); size = pos 1280 }

lines-2 : paragraph_lines faces container-2 (item.text 3 (60 ∷ 226 ∷ 128 ∷ 172 ∷ 227 ∷ 128 ∷ 141 ∷ 10 ∷ 37 ∷ 226 ∷ 128 ∷ 174 ∷ []) (record initial { mode = modes.SidewaysRl; orientation = orientations.Upright; bidi = bidis.BidiOverride; align = aligns.Center }) ∷ item.text 5 (226 ∷ 128 ∷ 142 ∷ 226 ∷ 128 ∷ 172 ∷ 216 ∷ 167 ∷ 227 ∷ 128 ∷ 141 ∷ 32 ∷ []) (record initial { mode = modes.SidewaysRl; orientation = orientations.Upright; bidi = bidis.BidiOverride; align = aligns.Center }) ∷ []) (preparation faces (Some 0) container-2.style (item.text 3 (60 ∷ 226 ∷ 128 ∷ 172 ∷ 227 ∷ 128 ∷ 141 ∷ 10 ∷ 37 ∷ 226 ∷ 128 ∷ 174 ∷ []) (record initial { mode = modes.SidewaysRl; orientation = orientations.Upright; bidi = bidis.BidiOverride; align = aligns.Center }) ∷ item.text 5 (226 ∷ 128 ∷ 142 ∷ 226 ∷ 128 ∷ 172 ∷ 216 ∷ 167 ∷ 227 ∷ 128 ∷ 141 ∷ 32 ∷ []) (record initial { mode = modes.SidewaysRl; orientation = orientations.Upright; bidi = bidis.BidiOverride; align = aligns.Center }) ∷ [])) ([]) ≡ (piece (record { node = 2; ordinal = 0 }) (record { i = pos 0; b = pos 0; inline = pos 1280; block = pos 1024 }) (line 0 (pos 768) modes.SidewaysRl bases.Alphabetic) (piece (record { node = 3; ordinal = 0 }) (record { i = pos 0; b = pos 0; inline = pos 512; block = pos 1024 }) (run kinds.Along 2 None (record { first = 0; end = 1; extent = pos 512; glyphs = ((60 ∷ []) ∷ []) } ∷ [])) none (piece (record { node = 3; ordinal = 0 }) (record { i = pos 512; b = pos 0; inline = pos 1024; block = pos 1024 }) (run kinds.Along 0 None (record { first = 2; end = 3; extent = pos 1024; glyphs = ((12301 ∷ []) ∷ []) } ∷ [])) none none)) (piece (record { node = 2; ordinal = 0 }) (record { i = pos 0; b = pos 1024; inline = pos 1280; block = pos 1024 }) (line 1 (pos 768) modes.SidewaysRl bases.Alphabetic) (piece (record { node = 3; ordinal = 0 }) (record { i = pos 0; b = pos 0; inline = pos 512; block = pos 1024 }) (run kinds.Along 0 None (record { first = 4; end = 5; extent = pos 512; glyphs = ((37 ∷ []) ∷ []) } ∷ [])) none (piece (record { node = 5; ordinal = 0 }) (record { i = pos 512; b = pos 0; inline = pos 512; block = pos 1024 }) (run kinds.Along 1 None (record { first = 2; end = 3; extent = pos 512; glyphs = ((1575 ∷ []) ∷ []) } ∷ [])) none (piece (record { node = 5; ordinal = 0 }) (record { i = pos 1024; b = pos 0; inline = pos 1024; block = pos 1024 }) (run kinds.Along 0 None (record { first = 3; end = 4; extent = pos 1024; glyphs = ((12301 ∷ []) ∷ []) } ∷ [])) none none))) none))
unfolding container-2 paragraph_lines fill_items box_at chains leaves line_marks preparation parts marks taking_part bidi_texts inside visual_order reset order paragraph_levels explicit_levels explicit_classes isolating_runs weak resolved sequence_classes sequence_levels units_of unit_clusters advance_of used_table row_of bidi_class break_class orientation mirror bracket initial unicode_segmentation
lines-2 = refl

container-3 : Container
container-3 = record { name = (record { node = 2; ordinal = 0 }); style = (record initial { mode = modes.VerticalRl; direction = directions.Rtl; align = aligns.End }); size = pos 0 }

lines-3 : paragraph_lines faces container-3 (atom (record { node = 3; ordinal = 0 }) ∷ []) (preparation faces (Some 1) container-3.style (atom (record { node = 3; ordinal = 0 }) ∷ [])) (record { fragment = (piece (record { node = 3; ordinal = 0 }) (record { i = pos 0; b = pos 0; inline = pos 512; block = pos 1024 }) (block modes.VerticalLr directions.Rtl (record { i = pos 0; b = pos 0; inline = pos 512; block = pos 1024 }) None (record { positive = pos 0; negative = pos 0 }) (record { positive = pos 0; negative = pos 0 }) false) (piece (record { node = 3; ordinal = 0 }) (record { i = pos 0; b = pos 0; inline = pos 512; block = pos 1024 }) (line 0 (pos 512) modes.VerticalLr bases.Central) (piece (record { node = 4; ordinal = 0 }) (record { i = pos 0; b = pos 0; inline = pos 512; block = pos 1024 }) (run kinds.Turned 2 None (record { first = 0; end = 1; extent = pos 512; glyphs = ((97 ∷ []) ∷ []) } ∷ [])) none none) none) none); extent = pos 512; left_margin = pos 0; over_margin = pos 0; over = pos 512; under = pos 512; shift = pos 0 } ∷ []) ≡ (piece (record { node = 2; ordinal = 0 }) (record { i = pos 0; b = pos 0; inline = pos 0; block = pos 1024 }) (line 0 (pos 512) modes.VerticalRl bases.Central) (piece (record { node = 3; ordinal = 0 }) (record { i = (neg_ℤ (pos 512)); b = pos 0; inline = pos 512; block = pos 1024 }) (block modes.VerticalLr directions.Rtl (record { i = pos 0; b = pos 0; inline = pos 512; block = pos 1024 }) None (record { positive = pos 0; negative = pos 0 }) (record { positive = pos 0; negative = pos 0 }) false) (piece (record { node = 3; ordinal = 0 }) (record { i = pos 0; b = pos 0; inline = pos 512; block = pos 1024 }) (line 0 (pos 512) modes.VerticalLr bases.Central) (piece (record { node = 4; ordinal = 0 }) (record { i = pos 0; b = pos 0; inline = pos 512; block = pos 1024 }) (run kinds.Turned 2 None (record { first = 0; end = 1; extent = pos 512; glyphs = ((97 ∷ []) ∷ []) } ∷ [])) none none) none) none) none)
unfolding container-3 paragraph_lines fill_items box_at chains leaves line_marks preparation parts marks taking_part bidi_texts inside visual_order reset order paragraph_levels explicit_levels explicit_classes isolating_runs weak resolved sequence_classes sequence_levels units_of unit_clusters advance_of used_table row_of bidi_class break_class orientation mirror bracket initial unicode_segmentation
lines-3 = refl

container-4 : Container
container-4 = record { name = (record { node = 2; ordinal = 0 }); style = (record initial { mode = modes.VerticalLr; direction = directions.Rtl; orientation = orientations.Upright; bidi = bidis.Plaintext; combine = combines.All; align = aligns.End }); size = pos 19200 }

lines-4 : paragraph_lines faces container-4 (item.text 3 (226 ∷ 128 ∷ 171 ∷ []) (record initial { mode = modes.VerticalLr; direction = directions.Rtl; orientation = orientations.Upright; bidi = bidis.Plaintext; combine = combines.All; align = aligns.End }) ∷ []) (preparation faces None container-4.style (item.text 3 (226 ∷ 128 ∷ 171 ∷ []) (record initial { mode = modes.VerticalLr; direction = directions.Rtl; orientation = orientations.Upright; bidi = bidis.Plaintext; combine = combines.All; align = aligns.End }) ∷ [])) ([]) ≡ none
unfolding container-4 paragraph_lines fill_items box_at chains leaves line_marks preparation parts marks taking_part bidi_texts inside visual_order reset order paragraph_levels explicit_levels explicit_classes isolating_runs weak resolved sequence_classes sequence_levels units_of unit_clusters advance_of used_table row_of bidi_class break_class orientation mirror bracket initial unicode_segmentation
lines-4 = refl

container-5 : Container
container-5 = record { name = (record { node = 2; ordinal = 0 }); style = (record initial { mode = modes.VerticalRl; combine = combines.All; align = aligns.End }); size = pos 19200 }

lines-5 : paragraph_lines faces container-5 (begins 3 (record initial { mode = modes.VerticalRl; direction = directions.Rtl; bidi = bidis.IsolateOverride; combine = combines.All; align = aligns.End }) true ∷ ends 3 true ∷ item.text 4 (234 ∷ 176 ∷ 128 ∷ 226 ∷ 128 ∷ 174 ∷ 37 ∷ 226 ∷ 129 ∷ 168 ∷ []) (record initial { mode = modes.VerticalRl; combine = combines.All; align = aligns.End }) ∷ atom (record { node = 5; ordinal = 0 }) ∷ []) (preparation faces (Some 0) container-5.style (begins 3 (record initial { mode = modes.VerticalRl; direction = directions.Rtl; bidi = bidis.IsolateOverride; combine = combines.All; align = aligns.End }) true ∷ ends 3 true ∷ item.text 4 (234 ∷ 176 ∷ 128 ∷ 226 ∷ 128 ∷ 174 ∷ 37 ∷ 226 ∷ 129 ∷ 168 ∷ []) (record initial { mode = modes.VerticalRl; combine = combines.All; align = aligns.End }) ∷ atom (record { node = 5; ordinal = 0 }) ∷ [])) (record { fragment = (piece (record { node = 5; ordinal = 0 }) (record { i = pos 0; b = pos 0; inline = pos 576; block = pos 192 }) (block modes.VerticalRl directions.Ltr (record { i = pos 0; b = pos 0; inline = pos 576; block = pos 192 }) (Some (pos 192)) (record { positive = pos 0; negative = pos 0 }) (record { positive = pos 0; negative = pos 0 }) false) none none); extent = pos 576; left_margin = pos 0; over_margin = pos 0; over = pos 96; under = pos 96; shift = pos 0 } ∷ []) ≡ (piece (record { node = 2; ordinal = 0 }) (record { i = pos 0; b = pos 0; inline = pos 19200; block = pos 1024 }) (line 0 (pos 512) modes.VerticalRl bases.Central) (piece (record { node = 4; ordinal = 0 }) (record { i = pos 17600; b = pos 0; inline = pos 1024; block = pos 1024 }) (run kinds.Combined 0 (Some (pos 1536)) (record { first = 0; end = 3; extent = pos 1024; glyphs = ((44032 ∷ []) ∷ (37 ∷ []) ∷ []) } ∷ [])) none (piece (record { node = 5; ordinal = 0 }) (record { i = pos 18624; b = pos 416; inline = pos 576; block = pos 192 }) (block modes.VerticalRl directions.Ltr (record { i = pos 0; b = pos 0; inline = pos 576; block = pos 192 }) (Some (pos 192)) (record { positive = pos 0; negative = pos 0 }) (record { positive = pos 0; negative = pos 0 }) false) none none)) none)
unfolding container-5 paragraph_lines fill_items box_at chains leaves line_marks preparation parts marks taking_part bidi_texts inside visual_order reset order paragraph_levels explicit_levels explicit_classes isolating_runs weak resolved sequence_classes sequence_levels units_of unit_clusters advance_of used_table row_of bidi_class break_class orientation mirror bracket initial unicode_segmentation
lines-5 = refl

container-6 : Container
container-6 = record { name = (record { node = 2; ordinal = 0 }); style = (record initial { bidi = bidis.IsolateOverride; align = aligns.Right }); size = pos 0 }

lines-6 : paragraph_lines faces container-6 (item.text 3 (217 ∷ 161 ∷ []) (record initial { bidi = bidis.IsolateOverride; align = aligns.Right }) ∷ []) (preparation faces (Some 0) container-6.style (item.text 3 (217 ∷ 161 ∷ []) (record initial { bidi = bidis.IsolateOverride; align = aligns.Right }) ∷ [])) ([]) ≡ (piece (record { node = 2; ordinal = 0 }) (record { i = pos 0; b = pos 0; inline = pos 0; block = pos 1024 }) (line 0 (pos 768) modes.HorizontalTb bases.Alphabetic) (piece (record { node = 3; ordinal = 0 }) (record { i = pos 0; b = pos 0; inline = pos 512; block = pos 1024 }) (run kinds.Along 2 None (record { first = 0; end = 1; extent = pos 512; glyphs = ((1633 ∷ []) ∷ []) } ∷ [])) none none) none)
unfolding container-6 paragraph_lines fill_items box_at chains leaves line_marks preparation parts marks taking_part bidi_texts inside visual_order reset order paragraph_levels explicit_levels explicit_classes isolating_runs weak resolved sequence_classes sequence_levels units_of unit_clusters advance_of used_table row_of bidi_class break_class orientation mirror bracket initial unicode_segmentation
lines-6 = refl

container-7 : Container
container-7 = record { name = (record { node = 2; ordinal = 0 }); style = (record initial { mode = modes.SidewaysRl; align = aligns.Right }); size = pos 0 }

lines-7 : paragraph_lines faces container-7 (item.text 3 (215 ∷ 146 ∷ 204 ∷ 129 ∷ 226 ∷ 128 ∷ 142 ∷ 10 ∷ 109 ∷ 41 ∷ 9 ∷ 32 ∷ []) (record initial { mode = modes.SidewaysRl; align = aligns.Right }) ∷ atom (record { node = 4; ordinal = 0 }) ∷ []) (preparation faces (Some 0) container-7.style (item.text 3 (215 ∷ 146 ∷ 204 ∷ 129 ∷ 226 ∷ 128 ∷ 142 ∷ 10 ∷ 109 ∷ 41 ∷ 9 ∷ 32 ∷ []) (record initial { mode = modes.SidewaysRl; align = aligns.Right }) ∷ atom (record { node = 4; ordinal = 0 }) ∷ [])) (record { fragment = (piece (record { node = 4; ordinal = 0 }) (record { i = pos 0; b = pos 0; inline = pos 1024; block = pos 512 }) (block modes.HorizontalTb directions.Ltr (record { i = pos 0; b = pos 0; inline = pos 1024; block = pos 512 }) None (record { positive = pos 0; negative = pos 0 }) (record { positive = pos 0; negative = pos 0 }) false) (piece (record { node = 4; ordinal = 0 }) (record { i = pos 0; b = pos 0; inline = pos 512; block = pos 1024 }) (line 0 (pos 768) modes.HorizontalTb bases.Alphabetic) (piece (record { node = 5; ordinal = 0 }) (record { i = pos 0; b = pos 0; inline = pos 512; block = pos 1024 }) (run kinds.Along 0 None (record { first = 0; end = 1; extent = pos 512; glyphs = ((97 ∷ []) ∷ []) } ∷ [])) none none) none) none); extent = pos 1024; left_margin = pos 0; over_margin = pos 0; over = pos 512; under = pos 0; shift = pos 0 } ∷ []) ≡ (piece (record { node = 2; ordinal = 0 }) (record { i = pos 0; b = pos 0; inline = pos 0; block = pos 1024 }) (line 0 (pos 768) modes.SidewaysRl bases.Alphabetic) (piece (record { node = 3; ordinal = 0 }) (record { i = pos 0; b = pos 0; inline = pos 512; block = pos 1024 }) (run kinds.Along 1 None (record { first = 0; end = 2; extent = pos 512; glyphs = ((1490 ∷ 769 ∷ []) ∷ []) } ∷ [])) none none) (piece (record { node = 2; ordinal = 0 }) (record { i = pos 0; b = pos 1024; inline = pos 0; block = pos 1024 }) (line 1 (pos 768) modes.SidewaysRl bases.Alphabetic) (piece (record { node = 3; ordinal = 0 }) (record { i = pos 0; b = pos 0; inline = pos 1024; block = pos 1024 }) (run kinds.Along 0 None (record { first = 4; end = 5; extent = pos 512; glyphs = ((109 ∷ []) ∷ []) } ∷ record { first = 5; end = 6; extent = pos 512; glyphs = ((41 ∷ []) ∷ []) } ∷ [])) none none) (piece (record { node = 2; ordinal = 0 }) (record { i = pos 0; b = pos 2048; inline = pos 0; block = pos 1024 }) (line 2 (pos 768) modes.SidewaysRl bases.Alphabetic) (piece (record { node = 4; ordinal = 0 }) (record { i = pos 0; b = pos 256; inline = pos 1024; block = pos 512 }) (block modes.HorizontalTb directions.Ltr (record { i = pos 0; b = pos 0; inline = pos 1024; block = pos 512 }) None (record { positive = pos 0; negative = pos 0 }) (record { positive = pos 0; negative = pos 0 }) false) (piece (record { node = 4; ordinal = 0 }) (record { i = pos 0; b = pos 0; inline = pos 512; block = pos 1024 }) (line 0 (pos 768) modes.HorizontalTb bases.Alphabetic) (piece (record { node = 5; ordinal = 0 }) (record { i = pos 0; b = pos 0; inline = pos 512; block = pos 1024 }) (run kinds.Along 0 None (record { first = 0; end = 1; extent = pos 512; glyphs = ((97 ∷ []) ∷ []) } ∷ [])) none none) none) none) none)))
unfolding container-7 paragraph_lines fill_items box_at chains leaves line_marks preparation parts marks taking_part bidi_texts inside visual_order reset order paragraph_levels explicit_levels explicit_classes isolating_runs weak resolved sequence_classes sequence_levels units_of unit_clusters advance_of used_table row_of bidi_class break_class orientation mirror bracket initial unicode_segmentation
lines-7 = refl

container-8 : Container
container-8 = record { name = (record { node = 2; ordinal = 0 }); style = (record initial { align = aligns.Left }); size = pos 5760 }

lines-8 : paragraph_lines faces container-8 (item.text 3 (226 ∷ 128 ∷ 173 ∷ 49 ∷ 50 ∷ []) (record initial { align = aligns.Left }) ∷ []) (preparation faces (Some 0) container-8.style (item.text 3 (226 ∷ 128 ∷ 173 ∷ 49 ∷ 50 ∷ []) (record initial { align = aligns.Left }) ∷ [])) ([]) ≡ (piece (record { node = 2; ordinal = 0 }) (record { i = pos 0; b = pos 0; inline = pos 5760; block = pos 1024 }) (line 0 (pos 768) modes.HorizontalTb bases.Alphabetic) (piece (record { node = 3; ordinal = 0 }) (record { i = pos 0; b = pos 0; inline = pos 1024; block = pos 1024 }) (run kinds.Along 2 None (record { first = 1; end = 2; extent = pos 512; glyphs = ((49 ∷ []) ∷ []) } ∷ record { first = 2; end = 3; extent = pos 512; glyphs = ((50 ∷ []) ∷ []) } ∷ [])) none none) none)
unfolding container-8 paragraph_lines fill_items box_at chains leaves line_marks preparation parts marks taking_part bidi_texts inside visual_order reset order paragraph_levels explicit_levels explicit_classes isolating_runs weak resolved sequence_classes sequence_levels units_of unit_clusters advance_of used_table row_of bidi_class break_class orientation mirror bracket initial unicode_segmentation
lines-8 = refl

container-9 : Container
container-9 = record { name = (record { node = 2; ordinal = 0 }); style = (record initial { mode = modes.SidewaysRl; orientation = orientations.Upright; bidi = bidis.Plaintext; align = aligns.End }); size = pos 5760 }

lines-9 : paragraph_lines faces container-9 (atom (record { node = 3; ordinal = 0 }) ∷ item.text 5 (226 ∷ 128 ∷ 171 ∷ 40 ∷ 60 ∷ 105 ∷ 93 ∷ 215 ∷ 144 ∷ 215 ∷ 145 ∷ []) (record initial { mode = modes.SidewaysRl; orientation = orientations.Upright; bidi = bidis.Plaintext; align = aligns.End }) ∷ []) (preparation faces None container-9.style (atom (record { node = 3; ordinal = 0 }) ∷ item.text 5 (226 ∷ 128 ∷ 171 ∷ 40 ∷ 60 ∷ 105 ∷ 93 ∷ 215 ∷ 144 ∷ 215 ∷ 145 ∷ []) (record initial { mode = modes.SidewaysRl; orientation = orientations.Upright; bidi = bidis.Plaintext; align = aligns.End }) ∷ [])) (record { fragment = (piece (record { node = 3; ordinal = 0 }) (record { i = pos 0; b = pos 0; inline = pos 1024; block = pos 1024 }) (block modes.VerticalRl directions.Ltr (record { i = pos 0; b = pos 0; inline = pos 1024; block = pos 1024 }) None (record { positive = pos 0; negative = pos 0 }) (record { positive = pos 0; negative = pos 0 }) false) (piece (record { node = 3; ordinal = 0 }) (record { i = pos 0; b = pos 0; inline = pos 1024; block = pos 1024 }) (line 0 (pos 512) modes.VerticalRl bases.Central) (piece (record { node = 4; ordinal = 0 }) (record { i = pos 0; b = pos 0; inline = pos 1024; block = pos 1024 }) (run kinds.Upright 0 None (record { first = 0; end = 1; extent = pos 1024; glyphs = ((97 ∷ []) ∷ []) } ∷ [])) none none) none) none); extent = pos 1024; left_margin = pos 0; over_margin = pos 0; over = pos 1024; under = pos 0; shift = pos 0 } ∷ []) ≡ (piece (record { node = 2; ordinal = 0 }) (record { i = pos 0; b = pos 0; inline = pos 5760; block = pos 1280 }) (line 0 (pos 1024) modes.SidewaysRl bases.Alphabetic) (piece (record { node = 3; ordinal = 0 }) (record { i = pos 1664; b = pos 0; inline = pos 1024; block = pos 1024 }) (block modes.VerticalRl directions.Ltr (record { i = pos 0; b = pos 0; inline = pos 1024; block = pos 1024 }) None (record { positive = pos 0; negative = pos 0 }) (record { positive = pos 0; negative = pos 0 }) false) (piece (record { node = 3; ordinal = 0 }) (record { i = pos 0; b = pos 0; inline = pos 1024; block = pos 1024 }) (line 0 (pos 512) modes.VerticalRl bases.Central) (piece (record { node = 4; ordinal = 0 }) (record { i = pos 0; b = pos 0; inline = pos 1024; block = pos 1024 }) (run kinds.Upright 0 None (record { first = 0; end = 1; extent = pos 1024; glyphs = ((97 ∷ []) ∷ []) } ∷ [])) none none) none) (piece (record { node = 5; ordinal = 0 }) (record { i = pos 2688; b = pos 256; inline = pos 1536; block = pos 1024 }) (run kinds.Along 1 None (record { first = 6; end = 7; extent = pos 512; glyphs = ((1489 ∷ []) ∷ []) } ∷ record { first = 5; end = 6; extent = pos 512; glyphs = ((1488 ∷ []) ∷ []) } ∷ record { first = 4; end = 5; extent = pos 512; glyphs = ((91 ∷ []) ∷ []) } ∷ [])) none (piece (record { node = 5; ordinal = 0 }) (record { i = pos 4224; b = pos 256; inline = pos 512; block = pos 1024 }) (run kinds.Along 2 None (record { first = 3; end = 4; extent = pos 512; glyphs = ((105 ∷ []) ∷ []) } ∷ [])) none (piece (record { node = 5; ordinal = 0 }) (record { i = pos 4736; b = pos 256; inline = pos 1024; block = pos 1024 }) (run kinds.Along 1 None (record { first = 2; end = 3; extent = pos 512; glyphs = ((62 ∷ []) ∷ []) } ∷ record { first = 1; end = 2; extent = pos 512; glyphs = ((41 ∷ []) ∷ []) } ∷ [])) none none)))) none)
unfolding container-9 paragraph_lines fill_items box_at chains leaves line_marks preparation parts marks taking_part bidi_texts inside visual_order reset order paragraph_levels explicit_levels explicit_classes isolating_runs weak resolved sequence_classes sequence_levels units_of unit_clusters advance_of used_table row_of bidi_class break_class orientation mirror bracket initial unicode_segmentation
lines-9 = refl

container-10 : Container
container-10 = record { name = (record { node = 2; ordinal = 0 }); style = (record initial { mode = modes.SidewaysRl; direction = directions.Rtl; orientation = orientations.Sideways; combine = combines.All; align = aligns.Right }); size = pos 5760 }

lines-10 : paragraph_lines faces container-10 (item.text 3 (227 ∷ 128 ∷ 141 ∷ []) (record initial { mode = modes.SidewaysRl; direction = directions.Rtl; orientation = orientations.Sideways; combine = combines.All; align = aligns.Right }) ∷ item.line_break 4 ∷ item.text 5 (10 ∷ []) (record initial { mode = modes.SidewaysRl; direction = directions.Rtl; orientation = orientations.Sideways; combine = combines.All; align = aligns.Right }) ∷ begins 6 (record initial { mode = modes.SidewaysRl; direction = directions.Rtl; orientation = orientations.Sideways; bidi = bidis.Embed; combine = combines.All; align = aligns.Right; line_height = heights.Length (pos 320) }) true ∷ ends 6 true ∷ begins 7 (record initial { mode = modes.SidewaysRl; direction = directions.Rtl; orientation = orientations.Sideways; bidi = bidis.Isolate; combine = combines.All; align = aligns.Right }) true ∷ ends 7 true ∷ item.text 8 (204 ∷ 129 ∷ 49 ∷ 50 ∷ []) (record initial { mode = modes.SidewaysRl; direction = directions.Rtl; orientation = orientations.Sideways; combine = combines.All; align = aligns.Right }) ∷ begins 9 (record initial { mode = modes.SidewaysRl; orientation = orientations.Sideways; combine = combines.All; align = aligns.Right; border = record { top = pos 0; right = pos 0; bottom = pos 64; left = pos 0 } }) true ∷ item.text 10 (226 ∷ 129 ∷ 169 ∷ 60 ∷ []) (record initial { mode = modes.SidewaysRl; orientation = orientations.Sideways; combine = combines.All; align = aligns.Right; border = record { top = pos 0; right = pos 0; bottom = pos 64; left = pos 0 } }) ∷ begins 11 (record initial { mode = modes.SidewaysRl; orientation = orientations.Sideways; combine = combines.All; align = aligns.Right }) true ∷ ends 11 true ∷ ends 9 true ∷ []) (preparation faces (Some 1) container-10.style (item.text 3 (227 ∷ 128 ∷ 141 ∷ []) (record initial { mode = modes.SidewaysRl; direction = directions.Rtl; orientation = orientations.Sideways; combine = combines.All; align = aligns.Right }) ∷ item.line_break 4 ∷ item.text 5 (10 ∷ []) (record initial { mode = modes.SidewaysRl; direction = directions.Rtl; orientation = orientations.Sideways; combine = combines.All; align = aligns.Right }) ∷ begins 6 (record initial { mode = modes.SidewaysRl; direction = directions.Rtl; orientation = orientations.Sideways; bidi = bidis.Embed; combine = combines.All; align = aligns.Right; line_height = heights.Length (pos 320) }) true ∷ ends 6 true ∷ begins 7 (record initial { mode = modes.SidewaysRl; direction = directions.Rtl; orientation = orientations.Sideways; bidi = bidis.Isolate; combine = combines.All; align = aligns.Right }) true ∷ ends 7 true ∷ item.text 8 (204 ∷ 129 ∷ 49 ∷ 50 ∷ []) (record initial { mode = modes.SidewaysRl; direction = directions.Rtl; orientation = orientations.Sideways; combine = combines.All; align = aligns.Right }) ∷ begins 9 (record initial { mode = modes.SidewaysRl; orientation = orientations.Sideways; combine = combines.All; align = aligns.Right; border = record { top = pos 0; right = pos 0; bottom = pos 64; left = pos 0 } }) true ∷ item.text 10 (226 ∷ 129 ∷ 169 ∷ 60 ∷ []) (record initial { mode = modes.SidewaysRl; orientation = orientations.Sideways; combine = combines.All; align = aligns.Right; border = record { top = pos 0; right = pos 0; bottom = pos 64; left = pos 0 } }) ∷ begins 11 (record initial { mode = modes.SidewaysRl; orientation = orientations.Sideways; combine = combines.All; align = aligns.Right }) true ∷ ends 11 true ∷ ends 9 true ∷ [])) ([]) ≡ (piece (record { node = 2; ordinal = 0 }) (record { i = pos 0; b = pos 0; inline = pos 5760; block = pos 1024 }) (line 0 (pos 768) modes.SidewaysRl bases.Alphabetic) (piece (record { node = 3; ordinal = 0 }) (record { i = pos 4736; b = pos 0; inline = pos 1024; block = pos 1024 }) (run kinds.Along 1 None (record { first = 0; end = 1; extent = pos 1024; glyphs = ((12300 ∷ []) ∷ []) } ∷ [])) none none) (piece (record { node = 2; ordinal = 0 }) (record { i = pos 0; b = pos 1024; inline = pos 5760; block = pos 1024 }) (line 1 (pos 768) modes.SidewaysRl bases.Alphabetic) (piece (record { node = 9; ordinal = 0 }) (record { i = pos 3648; b = pos 0; inline = pos 576; block = pos 1024 }) span (piece (record { node = 10; ordinal = 0 }) (record { i = pos 3648; b = pos 0; inline = pos 512; block = pos 1024 }) (run kinds.Along 1 None (record { first = 1; end = 2; extent = pos 512; glyphs = ((62 ∷ []) ∷ []) } ∷ [])) none none) (piece (record { node = 8; ordinal = 0 }) (record { i = pos 4224; b = pos 0; inline = pos 1024; block = pos 1024 }) (run kinds.Along 2 None (record { first = 1; end = 2; extent = pos 512; glyphs = ((49 ∷ []) ∷ []) } ∷ record { first = 2; end = 3; extent = pos 512; glyphs = ((50 ∷ []) ∷ []) } ∷ [])) none (piece (record { node = 8; ordinal = 0 }) (record { i = pos 5248; b = pos 0; inline = pos 512; block = pos 1024 }) (run kinds.Along 1 None (record { first = 0; end = 1; extent = pos 512; glyphs = ((769 ∷ []) ∷ []) } ∷ [])) none none))) none))
unfolding container-10 paragraph_lines fill_items box_at chains leaves line_marks preparation parts marks taking_part bidi_texts inside visual_order reset order paragraph_levels explicit_levels explicit_classes isolating_runs weak resolved sequence_classes sequence_levels units_of unit_clusters advance_of used_table row_of bidi_class break_class orientation mirror bracket initial unicode_segmentation
lines-10 = refl

container-11 : Container
container-11 = record { name = (record { node = 2; ordinal = 0 }); style = (record initial { direction = directions.Rtl; orientation = orientations.Upright; bidi = bidis.IsolateOverride; combine = combines.All; align = aligns.Left }); size = pos 19200 }

lines-11 : paragraph_lines faces container-11 (item.text 3 (226 ∷ 128 ∷ 142 ∷ 227 ∷ 128 ∷ 140 ∷ []) (record initial { direction = directions.Rtl; orientation = orientations.Upright; bidi = bidis.IsolateOverride; combine = combines.All; align = aligns.Left }) ∷ []) (preparation faces (Some 1) container-11.style (item.text 3 (226 ∷ 128 ∷ 142 ∷ 227 ∷ 128 ∷ 140 ∷ []) (record initial { direction = directions.Rtl; orientation = orientations.Upright; bidi = bidis.IsolateOverride; combine = combines.All; align = aligns.Left }) ∷ [])) ([]) ≡ (piece (record { node = 2; ordinal = 0 }) (record { i = pos 0; b = pos 0; inline = pos 19200; block = pos 1024 }) (line 0 (pos 768) modes.HorizontalTb bases.Alphabetic) (piece (record { node = 3; ordinal = 0 }) (record { i = pos 0; b = pos 0; inline = pos 1024; block = pos 1024 }) (run kinds.Along 3 None (record { first = 1; end = 2; extent = pos 1024; glyphs = ((12301 ∷ []) ∷ []) } ∷ [])) none none) none)
unfolding container-11 paragraph_lines fill_items box_at chains leaves line_marks preparation parts marks taking_part bidi_texts inside visual_order reset order paragraph_levels explicit_levels explicit_classes isolating_runs weak resolved sequence_classes sequence_levels units_of unit_clusters advance_of used_table row_of bidi_class break_class orientation mirror bracket initial unicode_segmentation
lines-11 = refl

container-12 : Container
container-12 = record { name = (record { node = 2; ordinal = 0 }); style = (record initial { mode = modes.SidewaysLr; direction = directions.Rtl; combine = combines.All; align = aligns.Left }); size = pos 19200 }

lines-12 : paragraph_lines faces container-12 (atom (record { node = 3; ordinal = 0 }) ∷ atom (record { node = 4; ordinal = 0 }) ∷ []) (preparation faces (Some 1) container-12.style (atom (record { node = 3; ordinal = 0 }) ∷ atom (record { node = 4; ordinal = 0 }) ∷ [])) (record { fragment = (piece (record { node = 3; ordinal = 0 }) (record { i = pos 0; b = pos 0; inline = pos 0; block = pos 0 }) (block modes.SidewaysLr directions.Rtl (record { i = pos 0; b = pos 0; inline = pos 0; block = pos 0 }) None (record { positive = pos 0; negative = pos 0 }) (record { positive = pos 0; negative = pos 0 }) false) none none); extent = pos 0; left_margin = pos 0; over_margin = pos 0; over = pos 0; under = pos 0; shift = pos 0 } ∷ record { fragment = (piece (record { node = 4; ordinal = 0 }) (record { i = pos 0; b = pos 0; inline = pos 1024; block = pos 512 }) (block modes.HorizontalTb directions.Rtl (record { i = pos 0; b = pos 0; inline = pos 1024; block = pos 512 }) None (record { positive = pos 0; negative = pos 0 }) (record { positive = pos 0; negative = pos 0 }) false) (piece (record { node = 4; ordinal = 0 }) (record { i = pos 0; b = pos 0; inline = pos 512; block = pos 1024 }) (line 0 (pos 768) modes.HorizontalTb bases.Alphabetic) (piece (record { node = 5; ordinal = 0 }) (record { i = pos 0; b = pos 0; inline = pos 512; block = pos 1024 }) (run kinds.Along 2 None (record { first = 0; end = 1; extent = pos 512; glyphs = ((97 ∷ []) ∷ []) } ∷ [])) none none) none) none); extent = pos 1024; left_margin = pos 0; over_margin = pos 0; over = pos 512; under = pos 0; shift = pos 0 } ∷ []) ≡ (piece (record { node = 2; ordinal = 0 }) (record { i = pos 0; b = pos 0; inline = pos 19200; block = pos 1024 }) (line 0 (pos 768) modes.SidewaysLr bases.Alphabetic) (piece (record { node = 4; ordinal = 0 }) (record { i = pos 0; b = pos 256; inline = pos 1024; block = pos 512 }) (block modes.HorizontalTb directions.Rtl (record { i = pos 0; b = pos 0; inline = pos 1024; block = pos 512 }) None (record { positive = pos 0; negative = pos 0 }) (record { positive = pos 0; negative = pos 0 }) false) (piece (record { node = 4; ordinal = 0 }) (record { i = pos 0; b = pos 0; inline = pos 512; block = pos 1024 }) (line 0 (pos 768) modes.HorizontalTb bases.Alphabetic) (piece (record { node = 5; ordinal = 0 }) (record { i = pos 0; b = pos 0; inline = pos 512; block = pos 1024 }) (run kinds.Along 2 None (record { first = 0; end = 1; extent = pos 512; glyphs = ((97 ∷ []) ∷ []) } ∷ [])) none none) none) (piece (record { node = 3; ordinal = 0 }) (record { i = pos 1024; b = pos 768; inline = pos 0; block = pos 0 }) (block modes.SidewaysLr directions.Rtl (record { i = pos 0; b = pos 0; inline = pos 0; block = pos 0 }) None (record { positive = pos 0; negative = pos 0 }) (record { positive = pos 0; negative = pos 0 }) false) none none)) none)
unfolding container-12 paragraph_lines fill_items box_at chains leaves line_marks preparation parts marks taking_part bidi_texts inside visual_order reset order paragraph_levels explicit_levels explicit_classes isolating_runs weak resolved sequence_classes sequence_levels units_of unit_clusters advance_of used_table row_of bidi_class break_class orientation mirror bracket initial unicode_segmentation
lines-12 = refl

container-13 : Container
container-13 = record { name = (record { node = 2; ordinal = 0 }); style = (record initial { mode = modes.SidewaysRl; combine = combines.All; align = aligns.Left }); size = pos 19200 }

lines-13 : paragraph_lines faces container-13 (item.text 3 (204 ∷ 129 ∷ 10 ∷ 47 ∷ []) (record initial { mode = modes.SidewaysRl; combine = combines.All; align = aligns.Left }) ∷ []) (preparation faces (Some 0) container-13.style (item.text 3 (204 ∷ 129 ∷ 10 ∷ 47 ∷ []) (record initial { mode = modes.SidewaysRl; combine = combines.All; align = aligns.Left }) ∷ [])) ([]) ≡ (piece (record { node = 2; ordinal = 0 }) (record { i = pos 0; b = pos 0; inline = pos 19200; block = pos 1024 }) (line 0 (pos 768) modes.SidewaysRl bases.Alphabetic) (piece (record { node = 3; ordinal = 0 }) (record { i = pos 0; b = pos 0; inline = pos 1536; block = pos 1024 }) (run kinds.Along 0 None (record { first = 0; end = 1; extent = pos 512; glyphs = ((769 ∷ []) ∷ []) } ∷ record { first = 1; end = 2; extent = pos 512; glyphs = ((32 ∷ []) ∷ []) } ∷ record { first = 2; end = 3; extent = pos 512; glyphs = ((47 ∷ []) ∷ []) } ∷ [])) none none) none)
unfolding container-13 paragraph_lines fill_items box_at chains leaves line_marks preparation parts marks taking_part bidi_texts inside visual_order reset order paragraph_levels explicit_levels explicit_classes isolating_runs weak resolved sequence_classes sequence_levels units_of unit_clusters advance_of used_table row_of bidi_class break_class orientation mirror bracket initial unicode_segmentation
lines-13 = refl
