-- Pages with the listings that an independent implementation gives them, and pages of the flow with listings worked by hand, by
-- computation.
use Rattle.std.specs.Prelude.{◌≡◌, refl, ℕ, true, false, List, [], ◌∷◌, ◌++◌, Some, None, ℤ, pos, negsuc, codes}
use Rattle.std.specs.Fmt.{digits}
use Rattle.margin_collapse.specs.declared.margins.Margins.{Margins}
use Rattle.wm_modes.specs.Words.{mode_word, direction_word}
use Rattle.wm_modes.specs.declared.mode.Direction.TheVariants as directions
use Rattle.wm_modes.specs.declared.mode.WritingMode.TheVariants as modes
use Rattle.wm_modes.specs.declared.rects.FlowRect.{FlowRect}
use Rattle.wm_modes.specs.declared.rects.Rect.{Rect}
use Rattle.fragment_types.specs.RunUnit.{RunUnit}
use Rattle.fragment_types.specs.declared.item.BoxName.{BoxName}
use Rattle.style_types.specs.declared.style.Baseline.TheVariants as bases
use Rattle.fragment_types.specs.declared.unit_kind.UnitKind.TheVariants as kinds
use Rattle.fragment_types.specs.Fragment.{block, line, span, run, measure}
use Rattle.place_map.specs.Placed.{Page, Parts, part, none}
use Rattle.listing.specs.Lines.{box_line, flow_line, line_line, line_of, page_line, run_line, run_place, span_line}
use Rattle.listing.specs.Listing.{flow_listing, listing}
use Rattle.listing.specs.Runs.{combined_width, end_of, first_of, form_word, turn_word}
use Rattle.listing.specs.Words.{code_point, count, name_words, rect_words, pair, word}

abbrev rect : (x y w h : ℤ) → Rect
rect x y w h = record { x = x; y = y; w = w; h = h }

-- a content area of this size
abbrev flow : (along across : ℤ) → FlowRect
flow along across = record { i = pos 0; b = pos 0; inline = along; block = across }

abbrev margin : Margins
margin = record { positive = pos 0; negative = pos 0 }

abbrev name : (node ordinal : ℕ) → BoxName
name node ordinal = record { node = node; ordinal = ordinal }

abbrev unit : (first end_ : ℕ) (extent : ℤ) → List (List ℕ) → RunUnit
unit first end_ extent glyphs = record { first = first; end = end_; extent = extent; glyphs = glyphs }

abbrev page : (along across : ℤ) → Parts → Page
page along across parts = record { view = record { inline = along; block = across }; parts = parts }

listing-1 : listing (page (pos 3200) (pos 6400) (part (name 0 0) (rect (pos 0) (pos 0) (pos 2944) (pos 3200)) (block modes.SidewaysLr directions.Ltr (flow (pos 3200) (pos 2944)) None margin margin false) (part (name 1 0) (rect (pos 0) (pos 0) (pos 2304) (pos 3200)) (block modes.SidewaysLr directions.Ltr (flow (pos 3200) (pos 2304)) None margin margin false) (part (name 1 1) (rect (pos 0) (pos 0) (pos 1024) (pos 3200)) (block modes.SidewaysLr directions.Ltr (flow (pos 3200) (pos 1024)) None margin margin false) (part (name 1 1) (rect (pos 0) (pos 0) (pos 1024) (pos 3200)) (line 0 (pos 768) modes.SidewaysLr bases.Alphabetic) (part (name 2 0) (rect (pos 0) (pos 0) (pos 1024) (pos 2048)) (run kinds.Along 0 None ((unit 0 1 (pos 1024) ((12300 ∷ []) ∷ [])) ∷ (unit 1 2 (pos 1024) ((65288 ∷ []) ∷ [])) ∷ [])) none none) none) (part (name 3 0) (rect (pos 1664) (pos 0) (pos 640) (pos 3200)) (block modes.VerticalLr directions.Ltr (flow (pos 3200) (pos 640)) None margin margin false) (part (name 3 0) (rect (pos 1664) (pos 0) (pos 640) (pos 3200)) (line 0 (pos 320) modes.VerticalLr bases.Central) (part (name 4 0) (rect (pos 1664) (pos 1600) (pos 640) (pos 640)) (run kinds.Combined 0 (Some (pos 2560)) ((unit 0 6 (pos 640) ((60 ∷ []) ∷ (46 ∷ []) ∷ (65288 ∷ []) ∷ (1489 ∷ []) ∷ (1488 ∷ []) ∷ (65288 ∷ []) ∷ [])) ∷ [])) none (part (name 4 0) (rect (pos 1664) (pos 2240) (pos 640) (pos 640)) (run kinds.Combined 2 (Some (pos 640)) ((unit 9 11 (pos 640) ((91 ∷ []) ∷ (109 ∷ []) ∷ [])) ∷ [])) none (part (name 4 0) (rect (pos 1664) (pos 2880) (pos 640) (pos 320)) (run kinds.Turned 1 None ((unit 7 8 (pos 320) ((32 ∷ []) ∷ [])) ∷ [])) none none))) none) none)) none) none))
    ≡ codes "page 6400 3200 sideways-lr ltr\nbox 0 0 0 0 2944 3200\nbox 1 0 0 0 2304 3200\nbox 1 1 0 0 1024 3200\nline 1 1 0 0 0 1024 3200 768\nrun 2 0 2 0 0 1024 2048 l 0 300C,FF08\nbox 3 0 1664 0 640 3200\nline 3 0 0 1664 0 640 3200 320\nrun 4 0 6 1664 1600 640 640 c640 0 003C,002E,FF08,05D1,05D0,FF08\nrun 4 9 11 1664 2240 640 640 c640 2 005B,006D\nrun 4 7 8 1664 2880 640 320 s 1 0020\nend\n"
unfolding listing page_line box_line line_line span_line run_place run_line line_of first_of end_of turn_word combined_width form_word word pair count rect_words name_words code_point digits mode_word direction_word
listing-1 = refl

listing-2 : listing (page (pos 6400) (pos 6400) (part (name 0 0) (rect (pos 2304) (pos 0) (pos 4096) (pos 6400)) (block modes.VerticalRl directions.Rtl (flow (pos 6400) (pos 4096)) None margin margin false) (part (name 1 0) (rect (pos 3328) (pos 0) (pos 2048) (pos 6400)) (block modes.VerticalRl directions.Rtl (flow (pos 6400) (pos 2048)) None margin margin false) (part (name 2 0) (rect (pos 3328) (pos 6400) (pos 2048) (pos 0)) (block modes.VerticalRl directions.Rtl (flow (pos 0) (pos 2048)) None margin margin false) (part (name 2 0) (rect (pos 4352) (pos 6400) (pos 1024) (pos 0)) (line 0 (pos 768) modes.VerticalRl bases.Alphabetic) (part (name 6 0) (rect (pos 4352) (pos 256) (pos 1024) (pos 512)) (run kinds.Turned 6 None ((unit 6 8 (pos 512) ((120 ∷ 769 ∷ []) ∷ [])) ∷ [])) none (part (name 6 0) (rect (pos 4352) (pos 768) (pos 1024) (pos 2048)) (run kinds.Turned 5 None ((unit 5 6 (pos 512) ((44 ∷ []) ∷ [])) ∷ (unit 4 5 (pos 1024) ((12289 ∷ []) ∷ [])) ∷ (unit 3 4 (pos 512) ((36 ∷ []) ∷ [])) ∷ [])) none (part (name 6 0) (rect (pos 4352) (pos 2816) (pos 1024) (pos 512)) (run kinds.Turned 3 None ((unit 0 1 (pos 512) ((109 ∷ []) ∷ [])) ∷ [])) none (part (name 4 0) (rect (pos 4352) (pos 3328) (pos 1024) (pos 512)) span (part (name 5 0) (rect (pos 4352) (pos 3328) (pos 1024) (pos 512)) (run kinds.Turned 3 None ((unit 0 1 (pos 512) ((1575 ∷ []) ∷ [])) ∷ [])) none none) (part (name 3 0) (rect (pos 4352) (pos 3840) (pos 1024) (pos 2560)) (run kinds.Turned 3 None ((unit 3 4 (pos 1024) ((12289 ∷ []) ∷ [])) ∷ (unit 2 3 (pos 512) ((91 ∷ []) ∷ [])) ∷ (unit 1 2 (pos 512) ((43 ∷ []) ∷ [])) ∷ (unit 0 1 (pos 512) ((43 ∷ []) ∷ [])) ∷ [])) none none))))) (part (name 2 0) (rect (pos 3328) (pos 6400) (pos 1024) (pos 0)) (line 1 (pos 768) modes.VerticalRl bases.Alphabetic) (part (name 9 0) (rect (pos 3328) (pos 2816) (pos 1024) (pos 1024)) (run kinds.Turned 7 None ((unit 4 5 (pos 512) ((40 ∷ []) ∷ [])) ∷ (unit 3 4 (pos 512) ((160 ∷ []) ∷ [])) ∷ [])) none (part (name 9 0) (rect (pos 3328) (pos 3840) (pos 1024) (pos 1024)) (run kinds.Turned 5 None ((unit 1 2 (pos 1024) ((12300 ∷ []) ∷ [])) ∷ [])) none (part (name 7 0) (rect (pos 3584) (pos 4864) (pos 512) (pos 1536)) (block modes.HorizontalTb directions.Rtl (flow (pos 512) (pos 1536)) None margin margin false) (part (name 7 0) (rect (pos 3584) (pos 4864) (pos 512) (pos 1536)) (line 0 (pos 1024) modes.HorizontalTb bases.Alphabetic) (part (name 8 0) (rect (pos 3584) (pos 5120) (pos 512) (pos 1024)) (run kinds.Along 1 None ((unit 0 1 (pos 512) ((62 ∷ []) ∷ [])) ∷ [])) none none) none) none))) none)) none) none) none))
    ≡ codes "page 6400 6400 vertical-rl rtl\nbox 0 0 2304 0 4096 6400\nbox 1 0 3328 0 2048 6400\nbox 2 0 3328 6400 2048 0\nline 2 0 0 4352 6400 1024 0 768\nrun 6 6 8 4352 256 1024 512 s 6 0078+0301\nrun 6 3 6 4352 768 1024 2048 s 5 002C,3001,0024\nrun 6 0 1 4352 2816 1024 512 s 3 006D\nspan 4 0 4352 3328 1024 512\nrun 5 0 1 4352 3328 1024 512 s 3 0627\nrun 3 0 4 4352 3840 1024 2560 s 3 3001,005B,002B,002B\nline 2 0 1 3328 6400 1024 0 768\nrun 9 3 5 3328 2816 1024 1024 s 7 0028,00A0\nrun 9 1 2 3328 3840 1024 1024 s 5 300C\nbox 7 0 3584 4864 512 1536\nline 7 0 0 3584 4864 512 1536 1024\nrun 8 0 1 3584 5120 512 1024 h 1 003E\nend\n"
unfolding listing page_line box_line line_line span_line run_place run_line line_of first_of end_of turn_word combined_width form_word word pair count rect_words name_words code_point digits mode_word direction_word
listing-2 = refl

listing-3 : listing (page (pos 3200) (pos 6400) (part (name 0 0) (rect (pos 0) (pos 0) (pos 5120) (pos 3200)) (block modes.VerticalLr directions.Ltr (flow (pos 3200) (pos 5120)) None margin margin false) (part (name 1 0) (rect (pos 1024) (pos 0) (pos 3072) (pos 3200)) (block modes.VerticalLr directions.Ltr (flow (pos 3200) (pos 3072)) None margin margin false) (part (name 2 0) (rect (pos 1024) (pos 0) (pos 3072) (pos 0)) (block modes.VerticalLr directions.Ltr (flow (pos 0) (pos 3072)) None margin margin false) (part (name 2 0) (rect (pos 1024) (pos 0) (pos 1024) (pos 0)) (line 0 (pos 512) modes.VerticalLr bases.Central) (part (name 3 0) (rect (pos 1024) (negsuc 5631) (pos 1024) (pos 2048)) (run kinds.Turned 2 None ((unit 6 7 (pos 512) ((51 ∷ []) ∷ [])) ∷ (unit 7 8 (pos 512) ((52 ∷ []) ∷ [])) ∷ (unit 8 9 (pos 512) ((53 ∷ []) ∷ [])) ∷ (unit 9 10 (pos 512) ((36 ∷ []) ∷ [])) ∷ [])) none (part (name 3 0) (rect (pos 1024) (negsuc 3583) (pos 1024) (pos 512)) (run kinds.Turned 4 None ((unit 11 12 (pos 512) ((1633 ∷ []) ∷ [])) ∷ [])) none (part (name 3 0) (rect (pos 1024) (negsuc 3071) (pos 1024) (pos 3072)) (run kinds.Turned 1 None ((unit 5 6 (pos 512) ((1489 ∷ []) ∷ [])) ∷ (unit 4 5 (pos 512) ((1488 ∷ []) ∷ [])) ∷ (unit 3 4 (pos 512) ((93 ∷ []) ∷ [])) ∷ (unit 2 3 (pos 512) ((1575 ∷ []) ∷ [])) ∷ (unit 1 2 (pos 512) ((37 ∷ []) ∷ [])) ∷ (unit 0 1 (pos 512) ((40 ∷ []) ∷ [])) ∷ [])) none none))) (part (name 2 0) (rect (pos 2048) (pos 0) (pos 1024) (pos 0)) (line 1 (pos 512) modes.VerticalLr bases.Central) (part (name 3 0) (rect (pos 2048) (negsuc 1023) (pos 1024) (pos 1024)) (run kinds.Upright 4 None ((unit 12 13 (pos 1024) ((26481 ∷ []) ∷ [])) ∷ [])) none none) (part (name 2 0) (rect (pos 3072) (pos 0) (pos 1024) (pos 0)) (line 2 (pos 512) modes.VerticalLr bases.Central) (part (name 3 0) (rect (pos 3072) (negsuc 3071) (pos 1024) (pos 2048)) (run kinds.Upright 3 None ((unit 15 16 (pos 1024) ((65289 ∷ []) ∷ [])) ∷ (unit 14 15 (pos 1024) ((12300 ∷ []) ∷ [])) ∷ [])) none (part (name 3 0) (rect (pos 3072) (negsuc 1023) (pos 1024) (pos 1024)) (run kinds.Upright 4 None ((unit 13 14 (pos 1024) ((20140 ∷ []) ∷ [])) ∷ [])) none none)) none))) none) none) none))
    ≡ codes "page 6400 3200 vertical-lr ltr\nbox 0 0 0 0 5120 3200\nbox 1 0 1024 0 3072 3200\nbox 2 0 1024 0 3072 0\nline 2 0 0 1024 0 1024 0 512\nrun 3 6 10 1024 -5632 1024 2048 s 2 0033,0034,0035,0024\nrun 3 11 12 1024 -3584 1024 512 s 4 0661\nrun 3 0 6 1024 -3072 1024 3072 s 1 05D1,05D0,005D,0627,0025,0028\nline 2 0 1 2048 0 1024 0 512\nrun 3 12 13 2048 -1024 1024 1024 u 4 6771\nline 2 0 2 3072 0 1024 0 512\nrun 3 14 16 3072 -3072 1024 2048 u 3 FF09,300C\nrun 3 13 14 3072 -1024 1024 1024 u 4 4EAC\nend\n"
unfolding listing page_line box_line line_line span_line run_place run_line line_of first_of end_of turn_word combined_width form_word word pair count rect_words name_words code_point digits mode_word direction_word
listing-3 = refl

listing-4 : listing (page (pos 12800) (pos 6400) (part (name 0 0) (rect (pos 3328) (pos 0) (pos 3072) (pos 12800)) (block modes.SidewaysRl directions.Ltr (flow (pos 12800) (pos 3072)) None margin margin false) (part (name 1 0) (rect (pos 4352) (pos 0) (pos 1024) (pos 12800)) (block modes.SidewaysRl directions.Ltr (flow (pos 12800) (pos 1024)) None margin margin false) (part (name 2 0) (rect (pos 4352) (pos 0) (pos 1024) (pos 3840)) (block modes.SidewaysRl directions.Ltr (flow (pos 3840) (pos 1024)) None margin margin false) (part (name 2 0) (rect (pos 4352) (pos 0) (pos 1024) (pos 3840)) (line 0 (pos 768) modes.SidewaysRl bases.Alphabetic) (part (name 3 0) (rect (pos 4352) (pos 0) (pos 1024) (pos 512)) (run kinds.Along 0 None ((unit 0 1 (pos 512) ((43 ∷ []) ∷ [])) ∷ [])) none none) none) none) none) none))
    ≡ codes "page 6400 12800 sideways-rl ltr\nbox 0 0 3328 0 3072 12800\nbox 1 0 4352 0 1024 12800\nbox 2 0 4352 0 1024 3840\nline 2 0 0 4352 0 1024 3840 768\nrun 3 0 1 4352 0 1024 512 s 0 002B\nend\n"
unfolding listing page_line box_line line_line span_line run_place run_line line_of first_of end_of turn_word combined_width form_word word pair count rect_words name_words code_point digits mode_word direction_word
listing-4 = refl

listing-5 : listing (page (pos 12800) (pos 3200) (part (name 0 0) (rect (pos 0) (pos 0) (pos 12800) (pos 2560)) (block modes.HorizontalTb directions.Ltr (flow (pos 12800) (pos 2560)) None margin margin false) (part (name 1 0) (rect (pos 512) (pos 1024) (pos 11776) (pos 1024)) (block modes.HorizontalTb directions.Ltr (flow (pos 11776) (pos 1024)) None margin margin false) (part (name 2 0) (rect (pos 512) (pos 1024) (pos 11776) (pos 1024)) (block modes.HorizontalTb directions.Ltr (flow (pos 9216) (pos 1024)) None margin margin false) (part (name 3 0) (rect (pos 4096) (pos 1024) (pos 1024) (pos 1024)) (block modes.VerticalRl directions.Rtl (flow (pos 1024) (pos 1024)) None margin margin false) (part (name 3 0) (rect (pos 4096) (pos 1024) (pos 1024) (pos 1024)) (line 0 (pos 512) modes.VerticalRl bases.Central) (part (name 4 0) (rect (pos 4096) (pos 1024) (pos 1024) (pos 1024)) (run kinds.Combined 2 (Some (pos 5120)) ((unit 0 9 (pos 1024) ((120 ∷ 769 ∷ []) ∷ (37 ∷ []) ∷ (26481 ∷ []) ∷ (20140 ∷ []) ∷ (109 ∷ []) ∷ (37 ∷ []) ∷ (40 ∷ []) ∷ (91 ∷ []) ∷ [])) ∷ [])) none none) none) none) none) none) none))
    ≡ codes "page 12800 3200 horizontal-tb ltr\nbox 0 0 0 0 12800 2560\nbox 1 0 512 1024 11776 1024\nbox 2 0 512 1024 11776 1024\nbox 3 0 4096 1024 1024 1024\nline 3 0 0 4096 1024 1024 1024 512\nrun 4 0 9 4096 1024 1024 1024 c1024 2 0078+0301,0025,6771,4EAC,006D,0025,0028,005B\nend\n"
unfolding listing page_line box_line line_line span_line run_place run_line line_of first_of end_of turn_word combined_width form_word word pair count rect_words name_words code_point digits mode_word direction_word
listing-5 = refl

listing-6 : listing (page (pos 51200) (pos 38400) (part (name 0 0) (rect (pos 0) (pos 0) (pos 4096) (pos 51200)) (block modes.VerticalLr directions.Rtl (flow (pos 51200) (pos 4096)) None margin margin false) (part (name 1 0) (rect (pos 1024) (pos 0) (pos 2048) (pos 51200)) (block modes.VerticalLr directions.Rtl (flow (pos 51200) (pos 2048)) None margin margin false) (part (name 2 0) (rect (pos 1024) (pos 51200) (pos 2048) (pos 0)) (block modes.VerticalLr directions.Rtl (flow (pos 0) (pos 2048)) None margin margin false) (part (name 2 0) (rect (pos 1024) (pos 51200) (pos 1024) (pos 0)) (line 0 (pos 512) modes.VerticalLr bases.Central) (part (name 3 0) (rect (pos 1024) (pos 44544) (pos 1024) (pos 1024)) (run kinds.Turned 8 None ((unit 12 13 (pos 512) ((97 ∷ []) ∷ [])) ∷ (unit 13 14 (pos 512) ((98 ∷ []) ∷ [])) ∷ [])) none (part (name 3 0) (rect (pos 1024) (pos 45568) (pos 1024) (pos 2048)) (run kinds.Turned 7 None ((unit 11 12 (pos 512) ((46 ∷ []) ∷ [])) ∷ (unit 10 11 (pos 512) ((46 ∷ []) ∷ [])) ∷ (unit 9 10 (pos 512) ((1489 ∷ []) ∷ [])) ∷ (unit 8 9 (pos 512) ((1488 ∷ []) ∷ [])) ∷ [])) none (part (name 3 0) (rect (pos 1024) (pos 47616) (pos 1024) (pos 1024)) (run kinds.Turned 8 None ((unit 6 7 (pos 512) ((49 ∷ []) ∷ [])) ∷ (unit 7 8 (pos 512) ((50 ∷ []) ∷ [])) ∷ [])) none (part (name 3 0) (rect (pos 1024) (pos 48640) (pos 1024) (pos 1536)) (run kinds.Turned 3 None ((unit 3 4 (pos 512) ((62 ∷ []) ∷ [])) ∷ (unit 2 3 (pos 512) ((98 ∷ []) ∷ [])) ∷ (unit 1 2 (pos 512) ((97 ∷ []) ∷ [])) ∷ [])) none (part (name 3 0) (rect (pos 1024) (pos 50176) (pos 1024) (pos 1024)) (run kinds.Upright 3 None ((unit 0 1 (pos 1024) ((12300 ∷ []) ∷ [])) ∷ [])) none none))))) (part (name 2 0) (rect (pos 2048) (pos 51200) (pos 1024) (pos 0)) (line 1 (pos 512) modes.VerticalLr bases.Central) (part (name 3 0) (rect (pos 2048) (pos 46592) (pos 1024) (pos 1024)) (run kinds.Turned 5 None ((unit 25 26 (pos 512) ((40 ∷ []) ∷ [])) ∷ (unit 23 24 (pos 512) ((32 ∷ []) ∷ [])) ∷ [])) none (part (name 3 0) (rect (pos 2048) (pos 47616) (pos 1024) (pos 512)) (run kinds.Turned 6 None ((unit 22 23 (pos 512) ((109 ∷ []) ∷ [])) ∷ [])) none (part (name 3 0) (rect (pos 2048) (pos 48128) (pos 1024) (pos 1024)) (run kinds.Turned 9 None ((unit 20 21 (pos 512) ((44 ∷ []) ∷ [])) ∷ (unit 19 20 (pos 512) ((41 ∷ []) ∷ [])) ∷ [])) none (part (name 3 0) (rect (pos 2048) (pos 49152) (pos 1024) (pos 1024)) (run kinds.Upright 7 None ((unit 17 18 (pos 1024) ((12289 ∷ []) ∷ [])) ∷ [])) none (part (name 3 0) (rect (pos 2048) (pos 50176) (pos 1024) (pos 1024)) (run kinds.Turned 8 None ((unit 15 16 (pos 512) ((99 ∷ []) ∷ [])) ∷ (unit 16 17 (pos 512) ((100 ∷ []) ∷ [])) ∷ [])) none none))))) none)) none) none) none))
    ≡ codes "page 38400 51200 vertical-lr rtl\nbox 0 0 0 0 4096 51200\nbox 1 0 1024 0 2048 51200\nbox 2 0 1024 51200 2048 0\nline 2 0 0 1024 51200 1024 0 512\nrun 3 12 14 1024 44544 1024 1024 s 8 0061,0062\nrun 3 8 12 1024 45568 1024 2048 s 7 002E,002E,05D1,05D0\nrun 3 6 8 1024 47616 1024 1024 s 8 0031,0032\nrun 3 1 4 1024 48640 1024 1536 s 3 003E,0062,0061\nrun 3 0 1 1024 50176 1024 1024 u 3 300C\nline 2 0 1 2048 51200 1024 0 512\nrun 3 23 26 2048 46592 1024 1024 s 5 0028,0020\nrun 3 22 23 2048 47616 1024 512 s 6 006D\nrun 3 19 21 2048 48128 1024 1024 s 9 002C,0029\nrun 3 17 18 2048 49152 1024 1024 u 7 3001\nrun 3 15 17 2048 50176 1024 1024 s 8 0063,0064\nend\n"
unfolding listing page_line box_line line_line span_line run_place run_line line_of first_of end_of turn_word combined_width form_word word pair count rect_words name_words code_point digits mode_word direction_word
listing-6 = refl

listing-7 : listing (page (pos 51200) (pos 6400) (part (name 0 0) (rect (pos 3328) (pos 0) (pos 3072) (pos 51200)) (block modes.VerticalRl directions.Ltr (flow (pos 51200) (pos 3072)) None margin margin false) (part (name 1 0) (rect (pos 4352) (pos 0) (pos 1024) (pos 51200)) (block modes.VerticalRl directions.Ltr (flow (pos 51200) (pos 1024)) None margin margin false) (part (name 2 0) (rect (pos 4352) (pos 0) (pos 1024) (pos 0)) (block modes.VerticalRl directions.Ltr (flow (pos 0) (pos 1024)) None margin margin false) (part (name 2 0) (rect (pos 4352) (pos 0) (pos 1024) (pos 0)) (line 0 (pos 512) modes.VerticalRl bases.Central) (part (name 4 0) (rect (pos 4352) (pos 0) (pos 1024) (pos 8192)) (run kinds.Upright 0 None ((unit 0 1 (pos 1024) ((91 ∷ []) ∷ [])) ∷ (unit 1 2 (pos 1024) ((44 ∷ []) ∷ [])) ∷ (unit 2 3 (pos 1024) ((1488 ∷ []) ∷ [])) ∷ (unit 3 4 (pos 1024) ((1489 ∷ []) ∷ [])) ∷ (unit 4 5 (pos 1024) ((1575 ∷ []) ∷ [])) ∷ (unit 5 6 (pos 1024) ((60 ∷ []) ∷ [])) ∷ (unit 6 7 (pos 1024) ((40 ∷ []) ∷ [])) ∷ (unit 7 8 (pos 1024) ((60 ∷ []) ∷ [])) ∷ [])) none none) none) none) none) none))
    ≡ codes "page 6400 51200 vertical-rl ltr\nbox 0 0 3328 0 3072 51200\nbox 1 0 4352 0 1024 51200\nbox 2 0 4352 0 1024 0\nline 2 0 0 4352 0 1024 0 512\nrun 4 0 8 4352 0 1024 8192 u 0 005B,002C,05D0,05D1,0627,003C,0028,003C\nend\n"
unfolding listing page_line box_line line_line span_line run_place run_line line_of first_of end_of turn_word combined_width form_word word pair count rect_words name_words code_point digits mode_word direction_word
listing-7 = refl

listing-8 : listing (page (pos 3200) (pos 6400) (part (name 0 0) (rect (pos 3328) (pos 0) (pos 3072) (pos 3200)) (block modes.SidewaysRl directions.Ltr (flow (pos 3200) (pos 3072)) None margin margin false) (part (name 1 0) (rect (pos 4352) (pos 0) (pos 1024) (pos 3200)) (block modes.SidewaysRl directions.Ltr (flow (pos 3200) (pos 1024)) None margin margin false) (part (name 2 0) (rect (pos 4352) (pos 0) (pos 1024) (pos 12800)) (block modes.SidewaysRl directions.Ltr (flow (pos 12800) (pos 1024)) None margin margin false) (part (name 2 0) (rect (pos 4352) (pos 0) (pos 1024) (pos 12800)) (line 0 (pos 768) modes.SidewaysRl bases.Alphabetic) (part (name 6 0) (rect (pos 4352) (pos 0) (pos 1024) (pos 1024)) (run kinds.Along 4 None ((unit 1 2 (pos 512) ((97 ∷ []) ∷ [])) ∷ (unit 2 3 (pos 512) ((98 ∷ []) ∷ [])) ∷ [])) none (part (name 4 0) (rect (pos 4352) (pos 1024) (pos 1024) (pos 2560)) span (part (name 5 0) (rect (pos 4352) (pos 1024) (pos 1024) (pos 2560)) (run kinds.Along 2 None ((unit 0 1 (pos 1024) ((12354 ∷ []) ∷ [])) ∷ (unit 1 2 (pos 1024) ((12289 ∷ []) ∷ [])) ∷ (unit 2 3 (pos 512) ((97 ∷ []) ∷ [])) ∷ [])) none none) (part (name 3 0) (rect (pos 4352) (pos 3584) (pos 1024) (pos 1024)) (run kinds.Along 1 None ((unit 2 4 (pos 1024) ((12289 ∷ 769 ∷ []) ∷ [])) ∷ [])) none (part (name 3 0) (rect (pos 4352) (pos 4608) (pos 1024) (pos 512)) (run kinds.Along 2 None ((unit 1 2 (pos 512) ((1633 ∷ []) ∷ [])) ∷ [])) none none)))) none) none) none) none))
    ≡ codes "page 6400 3200 sideways-rl ltr\nbox 0 0 3328 0 3072 3200\nbox 1 0 4352 0 1024 3200\nbox 2 0 4352 0 1024 12800\nline 2 0 0 4352 0 1024 12800 768\nrun 6 1 3 4352 0 1024 1024 s 4 0061,0062\nspan 4 0 4352 1024 1024 2560\nrun 5 0 3 4352 1024 1024 2560 s 2 3042,3001,0061\nrun 3 2 4 4352 3584 1024 1024 s 1 3001+0301\nrun 3 1 2 4352 4608 1024 512 s 2 0661\nend\n"
unfolding listing page_line box_line line_line span_line run_place run_line line_of first_of end_of turn_word combined_width form_word word pair count rect_words name_words code_point digits mode_word direction_word
listing-8 = refl

listing-9 : listing (page (pos 3200) (pos 3200) (part (name 0 0) (rect (pos 0) (pos 0) (pos 3200) (pos 3072)) (block modes.HorizontalTb directions.Ltr (flow (pos 3200) (pos 3072)) None margin margin false) (part (name 1 0) (rect (pos 512) (pos 512) (pos 2176) (pos 2048)) (block modes.HorizontalTb directions.Ltr (flow (pos 2176) (pos 2048)) None margin margin false) (part (name 1 0) (rect (pos 512) (pos 512) (pos 2176) (pos 1024)) (line 0 (pos 768) modes.HorizontalTb bases.Alphabetic) (part (name 2 0) (rect (pos 512) (pos 512) (pos 512) (pos 1024)) (run kinds.Along 0 None ((unit 0 1 (pos 512) ((91 ∷ []) ∷ [])) ∷ [])) none (part (name 3 0) (rect (pos 1024) (pos 512) (pos 2048) (pos 1024)) span (part (name 6 0) (rect (pos 1024) (pos 512) (pos 1536) (pos 1024)) (run kinds.Along 2 None ((unit 0 1 (pos 512) ((769 ∷ []) ∷ [])) ∷ (unit 1 2 (pos 512) ((93 ∷ []) ∷ [])) ∷ (unit 2 4 (pos 512) ((120 ∷ 769 ∷ []) ∷ [])) ∷ [])) none (part (name 6 0) (rect (pos 2560) (pos 512) (pos 512) (pos 1024)) (run kinds.Along 4 None ((unit 4 5 (pos 512) ((1633 ∷ []) ∷ [])) ∷ [])) none none)) none)) (part (name 1 0) (rect (pos 512) (pos 1536) (pos 2176) (pos 1024)) (line 1 (pos 768) modes.HorizontalTb bases.Alphabetic) (part (name 3 0) (rect (pos 512) (pos 1536) (pos 2662) (pos 1024)) span (part (name 6 0) (rect (pos 512) (pos 1536) (pos 1024) (pos 1024)) (run kinds.Along 2 None ((unit 5 6 (pos 1024) ((12354 ∷ []) ∷ [])) ∷ [])) none (part (name 6 0) (rect (pos 1536) (pos 1536) (pos 1536) (pos 1024)) (run kinds.Along 3 None ((unit 10 11 (pos 1024) ((12289 ∷ []) ∷ [])) ∷ (unit 9 10 (pos 512) ((44 ∷ []) ∷ [])) ∷ [])) none none)) none) none)) none) none))
    ≡ codes "page 3200 3200 horizontal-tb ltr\nbox 0 0 0 0 3200 3072\nbox 1 0 512 512 2176 2048\nline 1 0 0 512 512 2176 1024 768\nrun 2 0 1 512 512 512 1024 h 0 005B\nspan 3 0 1024 512 2048 1024\nrun 6 0 4 1024 512 1536 1024 h 2 0301,005D,0078+0301\nrun 6 4 5 2560 512 512 1024 h 4 0661\nline 1 0 1 512 1536 2176 1024 768\nspan 3 0 512 1536 2662 1024\nrun 6 5 6 512 1536 1024 1024 h 2 3042\nrun 6 9 11 1536 1536 1536 1024 h 3 3001,002C\nend\n"
unfolding listing page_line box_line line_line span_line run_place run_line line_of first_of end_of turn_word combined_width form_word word pair count rect_words name_words code_point digits mode_word direction_word
listing-9 = refl

listing-10 : listing (page (pos 6400) (pos 3200) (part (name 0 0) (rect (pos 0) (pos 0) (pos 1066) (pos 6400)) (block modes.SidewaysLr directions.Ltr (flow (pos 6400) (pos 1066)) None margin margin false) (part (name 1 0) (rect (pos 1024) (pos 512) (pos 2048) (pos 5376)) (block modes.SidewaysLr directions.Ltr (flow (pos 5376) (pos 2048)) None margin margin false) (part (name 2 0) (rect (pos 1024) (pos 4097) (pos 0) (pos 1791)) (block modes.SidewaysLr directions.Rtl (flow (pos 1791) (pos 0)) None margin margin true) none (part (name 1 1) (rect (pos 1024) (pos 512) (pos 2048) (pos 5376)) (block modes.SidewaysLr directions.Ltr (flow (pos 5376) (pos 2048)) None margin margin false) (part (name 1 1) (rect (pos 1024) (pos 512) (pos 1024) (pos 5376)) (line 0 (pos 768) modes.SidewaysLr bases.Alphabetic) (part (name 4 0) (rect (pos 1024) (pos 2304) (pos 1024) (pos 3584)) (run kinds.Along 0 None ((unit 0 1 (pos 512) ((49 ∷ []) ∷ [])) ∷ (unit 1 2 (pos 512) ((50 ∷ []) ∷ [])) ∷ (unit 2 3 (pos 512) ((43 ∷ []) ∷ [])) ∷ (unit 3 4 (pos 512) ((45 ∷ []) ∷ [])) ∷ (unit 4 5 (pos 1024) ((12300 ∷ []) ∷ [])) ∷ (unit 5 6 (pos 512) ((43 ∷ []) ∷ [])) ∷ [])) none (part (name 5 0) (rect (pos 1024) (pos 768) (pos 1024) (pos 1536)) span (part (name 6 0) (rect (pos 1024) (pos 768) (pos 1024) (pos 1536)) (run kinds.Along 0 None ((unit 0 1 (pos 512) ((36 ∷ []) ∷ [])) ∷ (unit 1 2 (pos 512) ((97 ∷ []) ∷ [])) ∷ (unit 2 3 (pos 512) ((45 ∷ []) ∷ [])) ∷ [])) none none) none)) (part (name 1 1) (rect (pos 2048) (pos 512) (pos 1024) (pos 5376)) (line 1 (pos 768) modes.SidewaysLr bases.Alphabetic) (part (name 5 0) (rect (pos 2048) (pos 2304) (pos 1024) (pos 3584)) span (part (name 6 0) (rect (pos 2048) (pos 5376) (pos 1024) (pos 512)) (run kinds.Along 1 None ((unit 4 5 (pos 512) ((1575 ∷ []) ∷ [])) ∷ [])) none (part (name 6 0) (rect (pos 2048) (pos 2304) (pos 1024) (pos 3072)) (run kinds.Along 0 None ((unit 5 6 (pos 512) ((97 ∷ []) ∷ [])) ∷ (unit 6 7 (pos 512) ((98 ∷ []) ∷ [])) ∷ (unit 7 8 (pos 1024) ((12289 ∷ []) ∷ [])) ∷ (unit 8 9 (pos 512) ((93 ∷ []) ∷ [])) ∷ (unit 9 10 (pos 512) ((44 ∷ []) ∷ [])) ∷ [])) none none)) none) none)) none)) none) none))
    ≡ codes "page 3200 6400 sideways-lr ltr\nbox 0 0 0 0 1066 6400\nbox 1 0 1024 512 2048 5376\nbox 2 0 1024 4097 0 1791\nbox 1 1 1024 512 2048 5376\nline 1 1 0 1024 512 1024 5376 768\nrun 4 0 6 1024 2304 1024 3584 l 0 0031,0032,002B,002D,300C,002B\nspan 5 0 1024 768 1024 1536\nrun 6 0 3 1024 768 1024 1536 l 0 0024,0061,002D\nline 1 1 1 2048 512 1024 5376 768\nspan 5 0 2048 2304 1024 3584\nrun 6 4 5 2048 5376 1024 512 l 1 0627\nrun 6 5 10 2048 2304 1024 3072 l 0 0061,0062,3001,005D,002C\nend\n"
unfolding listing page_line box_line line_line span_line run_place run_line line_of first_of end_of turn_word combined_width form_word word pair count rect_words name_words code_point digits mode_word direction_word
listing-10 = refl

listing-11 : listing (page (pos 12800) (pos 38400) (part (name 0 0) (rect (pos 36352) (pos 0) (pos 2048) (pos 12800)) (block modes.VerticalRl directions.Ltr (flow (pos 12800) (pos 2048)) None margin margin false) (part (name 1 0) (rect (pos 36864) (pos 512) (pos 1024) (pos 11776)) (block modes.VerticalRl directions.Ltr (flow (pos 11776) (pos 1024)) None margin margin false) (part (name 1 0) (rect (pos 36864) (pos 512) (pos 1024) (pos 11776)) (line 0 (pos 768) modes.VerticalRl bases.Alphabetic) (part (name 2 0) (rect (pos 36864) (pos 512) (pos 1024) (pos 1024)) (run kinds.Turned 0 None ((unit 0 1 (pos 512) ((40 ∷ []) ∷ [])) ∷ (unit 1 3 (pos 512) ((120 ∷ 769 ∷ []) ∷ [])) ∷ [])) none (part (name 2 0) (rect (pos 36864) (pos 1536) (pos 1024) (pos 512)) (run kinds.Turned 1 None ((unit 3 4 (pos 512) ((1575 ∷ []) ∷ [])) ∷ [])) none (part (name 4 0) (rect (pos 36864) (pos 2048) (pos 1024) (pos 2048)) (run kinds.Turned 0 None ((unit 0 1 (pos 512) ((60 ∷ []) ∷ [])) ∷ (unit 1 2 (pos 1024) ((44032 ∷ []) ∷ [])) ∷ (unit 2 3 (pos 512) ((91 ∷ []) ∷ [])) ∷ [])) none (part (name 5 0) (rect (pos 36864) (pos 4096) (pos 1024) (pos 4096)) span (part (name 6 0) (rect (pos 36864) (pos 4096) (pos 1024) (pos 4096)) (run kinds.Turned 2 None ((unit 0 1 (pos 512) ((49 ∷ []) ∷ [])) ∷ (unit 1 2 (pos 512) ((50 ∷ []) ∷ [])) ∷ (unit 2 3 (pos 512) ((51 ∷ []) ∷ [])) ∷ (unit 3 4 (pos 512) ((52 ∷ []) ∷ [])) ∷ (unit 4 5 (pos 512) ((53 ∷ []) ∷ [])) ∷ (unit 5 6 (pos 512) ((93 ∷ []) ∷ [])) ∷ (unit 6 7 (pos 512) ((109 ∷ []) ∷ [])) ∷ (unit 7 8 (pos 512) ((45 ∷ []) ∷ [])) ∷ [])) none none) none)))) none) none) none))
    ≡ codes "page 38400 12800 vertical-rl ltr\nbox 0 0 36352 0 2048 12800\nbox 1 0 36864 512 1024 11776\nline 1 0 0 36864 512 1024 11776 768\nrun 2 0 3 36864 512 1024 1024 s 0 0028,0078+0301\nrun 2 3 4 36864 1536 1024 512 s 1 0627\nrun 4 0 3 36864 2048 1024 2048 s 0 003C,AC00,005B\nspan 5 0 36864 4096 1024 4096\nrun 6 0 8 36864 4096 1024 4096 s 2 0031,0032,0033,0034,0035,005D,006D,002D\nend\n"
unfolding listing page_line box_line line_line span_line run_place run_line line_of first_of end_of turn_word combined_width form_word word pair count rect_words name_words code_point digits mode_word direction_word
listing-11 = refl

listing-12 : listing (page (pos 51200) (pos 3200) (part (name 0 0) (rect (pos 0) (pos 0) (pos 5468) (pos 51200)) (block modes.VerticalLr directions.Ltr (flow (pos 51200) (pos 5468)) None margin margin false) (part (name 1 0) (rect (pos 512) (pos 512) (pos 4444) (pos 50176)) (block modes.VerticalLr directions.Ltr (flow (pos 50176) (pos 4444)) None margin margin false) (part (name 1 1) (rect (pos 512) (pos 512) (pos 1024) (pos 50176)) (block modes.VerticalLr directions.Ltr (flow (pos 50176) (pos 1024)) None margin margin false) (part (name 1 1) (rect (pos 512) (pos 512) (pos 1024) (pos 50176)) (line 0 (pos 512) modes.VerticalLr bases.Central) (part (name 2 0) (rect (pos 512) (pos 512) (pos 1024) (pos 1024)) span (part (name 4 0) (rect (pos 576) (pos 512) (pos 896) (pos 1024)) span (part (name 5 0) (rect (pos 576) (pos 512) (pos 896) (pos 1024)) (run kinds.Combined 0 (Some (pos 1536)) ((unit 0 3 (pos 1024) ((45 ∷ []) ∷ (91 ∷ []) ∷ (37 ∷ []) ∷ [])) ∷ [])) none none) none) none) none) (part (name 6 0) (rect (pos 2734) (pos 512) (pos 0) (pos 50176)) (block modes.SidewaysLr directions.Rtl (flow (pos 50176) (pos 0)) None margin margin false) none (part (name 1 2) (rect (pos 3932) (pos 512) (pos 1024) (pos 50176)) (block modes.VerticalLr directions.Ltr (flow (pos 50176) (pos 1024)) None margin margin false) (part (name 1 2) (rect (pos 3932) (pos 512) (pos 1024) (pos 50176)) (line 0 (pos 512) modes.VerticalLr bases.Central) (part (name 7 0) (rect (pos 3932) (pos 512) (pos 1024) (pos 1024)) (run kinds.Turned 0 None ((unit 0 1 (pos 512) ((109 ∷ []) ∷ [])) ∷ (unit 1 2 (pos 512) ((32 ∷ []) ∷ [])) ∷ [])) none (part (name 7 0) (rect (pos 3932) (pos 1536) (pos 1024) (pos 1024)) (run kinds.Upright 0 None ((unit 2 3 (pos 1024) ((12354 ∷ []) ∷ [])) ∷ [])) none none)) none) none))) none) none))
    ≡ codes "page 3200 51200 vertical-lr ltr\nbox 0 0 0 0 5468 51200\nbox 1 0 512 512 4444 50176\nbox 1 1 512 512 1024 50176\nline 1 1 0 512 512 1024 50176 512\nspan 2 0 512 512 1024 1024\nspan 4 0 576 512 896 1024\nrun 5 0 3 576 512 896 1024 c1024 0 002D,005B,0025\nbox 6 0 2734 512 0 50176\nbox 1 2 3932 512 1024 50176\nline 1 2 0 3932 512 1024 50176 512\nrun 7 0 2 3932 512 1024 1024 s 0 006D,0020\nrun 7 2 3 3932 1536 1024 1024 u 0 3042\nend\n"
unfolding listing page_line box_line line_line span_line run_place run_line line_of first_of end_of turn_word combined_width form_word word pair count rect_words name_words code_point digits mode_word direction_word
listing-12 = refl

-- a page of the flow, whose words of how text stands are dashes
flow-1 : flow_listing (page (pos 6400) (pos 3200) (part (name 0 0) (rect (pos 0) (pos 0) (pos 6400) (pos 1024)) (block modes.HorizontalTb directions.Rtl (flow (pos 6400) (pos 1024)) None margin margin false) (part (name 1 0) (rect (pos 0) (pos 0) (pos 6400) (pos 1024)) (block modes.HorizontalTb directions.Rtl (flow (pos 6400) (pos 1024)) None margin margin false) (part (name 1 0) (rect (pos 0) (pos 0) (pos 6400) (pos 1024)) (line 0 (pos 768) modes.HorizontalTb bases.Alphabetic) (part (name 2 0) (rect (pos 4352) (pos 0) (pos 1024) (pos 1024)) span (part (name 3 0) (rect (pos 4352) (pos 0) (pos 1024) (pos 1024)) (run kinds.Along 2 None ((unit 0 2 (pos 512) ((120 ∷ 769 ∷ []) ∷ [])) ∷ (unit 2 3 (pos 512) ((121 ∷ []) ∷ [])) ∷ [])) none none) (part (name 4 0) (rect (pos 5376) (pos 0) (pos 1024) (pos 1024)) (run kinds.Along 1 None ((unit 1 2 (pos 512) ((41 ∷ []) ∷ [])) ∷ (unit 0 1 (pos 512) ((1488 ∷ []) ∷ [])) ∷ [])) none none)) none) none) none))
    ≡ codes "flow 6400 3200 rtl\nbox 0 0 0 0 6400 1024\nbox 1 0 0 0 6400 1024\nline 1 0 0 0 0 6400 1024 768\nspan 2 0 4352 0 1024 1024\nrun 3 0 3 4352 0 1024 1024 - 2 0078+0301,0079\nrun 4 0 2 5376 0 1024 1024 - 1 0029,05D0\nend\n"
unfolding flow_listing flow_line box_line line_line span_line run_place run_line line_of first_of end_of word pair count rect_words name_words code_point digits direction_word
flow-1 = refl

-- the flow stays the flow in boxes of modes of their own, for upright, turned and combined runs too
flow-2 : flow_listing (page (pos 12800) (pos 38400) (part (name 0 0) (rect (pos 0) (pos 0) (pos 12800) (pos 3072)) (block modes.HorizontalTb directions.Ltr (flow (pos 12800) (pos 3072)) None margin margin false) (part (name 1 0) (rect (pos 0) (pos 0) (pos 1024) (pos 3072)) (block modes.VerticalRl directions.Ltr (flow (pos 3072) (pos 1024)) None margin margin false) (part (name 1 0) (rect (pos 0) (pos 0) (pos 1024) (pos 3072)) (line 0 (pos 512) modes.VerticalRl bases.Central) (part (name 2 0) (rect (pos 0) (pos 0) (pos 1024) (pos 1024)) (run kinds.Upright 0 None ((unit 0 1 (pos 1024) ((12354 ∷ []) ∷ [])) ∷ [])) none (part (name 2 0) (rect (pos 0) (pos 1024) (pos 1024) (pos 1024)) (run kinds.Combined 0 (Some (pos 1536)) ((unit 1 4 (pos 1024) ((49 ∷ []) ∷ (50 ∷ []) ∷ (51 ∷ []) ∷ [])) ∷ [])) none (part (name 2 0) (rect (pos 0) (pos 2048) (pos 1024) (pos 512)) (run kinds.Turned 0 None ((unit 4 5 (pos 512) ((97 ∷ []) ∷ [])) ∷ [])) none (part (name 3 0) (rect (pos 0) (pos 2560) (pos 0) (pos 0)) (measure (pos 0) (pos 0)) none none)))) none) (part (name 4 0) (rect (pos 1024) (negsuc 511) (pos 1024) (pos 512)) (block modes.SidewaysLr directions.Ltr (flow (pos 512) (pos 1024)) None margin margin false) (part (name 4 0) (rect (pos 1024) (negsuc 511) (pos 1024) (pos 512)) (line 0 (pos 768) modes.SidewaysLr bases.Alphabetic) (part (name 5 0) (rect (pos 1024) (negsuc 511) (pos 1024) (pos 512)) (run kinds.Along 0 None ((unit 0 1 (pos 512) ((98 ∷ []) ∷ [])) ∷ [])) none none) none) none)) none))
    ≡ codes "flow 12800 38400 ltr\nbox 0 0 0 0 12800 3072\nbox 1 0 0 0 1024 3072\nline 1 0 0 0 0 1024 3072 512\nrun 2 0 1 0 0 1024 1024 - 0 3042\nrun 2 1 4 0 1024 1024 1024 - 0 0031,0032,0033\nrun 2 4 5 0 2048 1024 512 - 0 0061\nbox 4 0 1024 -512 1024 512\nline 4 0 0 1024 -512 1024 512 768\nrun 5 0 1 1024 -512 1024 512 - 0 0062\nend\n"
unfolding flow_listing flow_line box_line line_line span_line run_place run_line line_of first_of end_of word pair count rect_words name_words code_point digits direction_word
flow-2 = refl

-- code points have four digits at least
code_points : code_point 10 ++ code_point 1488 ++ code_point 65535 ++ code_point 65536 ++ code_point 1114111 ≡ codes "000A05D0FFFF1000010FFFF"
unfolding code_point digits
code_points = refl
