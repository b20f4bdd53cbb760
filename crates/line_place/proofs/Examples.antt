-- Some lines, computed. The right sides are from outside.
use Rattle.std.specs.Prelude.{◌≡◌, refl, ℕ, Bool, true, false, List, [], ◌∷◌, Option, Some, None, ℤ, pos, negsuc}
use Rattle.margin_collapse.specs.declared.margins.Margins.{Margins}
use Rattle.wm_modes.specs.declared.mode.WritingMode.TheVariants.{HorizontalTb}
use Rattle.wm_modes.specs.declared.mode.Direction.{Direction}
use Rattle.wm_modes.specs.declared.mode.Direction.TheVariants.{Ltr, Rtl}
use Rattle.wm_modes.specs.declared.rects.FlowRect.{FlowRect}
use Rattle.wm_chars.specs.declared.classes.BidiClass.{BidiClass}
use Rattle.wm_chars.specs.declared.classes.BidiClass.TheVariants.{L, R, EN, ES, AN, NSM, B, WS, ON}
use Rattle.style_types.specs.declared.style.Align.{Align}
use Rattle.style_types.specs.declared.style.Align.TheVariants.{Start, End, Left, Right, Center}
use Rattle.fragment_types.specs.declared.unit_kind.UnitKind.TheVariants.{Along, Turned, Upright, Combined}
use Rattle.fragment_types.specs.declared.item.BoxName.{BoxName}
use Rattle.fragment_types.specs.RunUnit.{RunUnit}
use Rattle.fragment_types.specs.Fragment.{none, piece, block, span, run}
use Rattle.bidi_order.specs.Blanks.{reset}
use Rattle.bidi_order.specs.Reversals.{order}
use Rattle.bidi_order.specs.Visual.{visual_order}
use Rattle.line_place.specs.declared.line.Extents.{Extents}
use Rattle.line_place.specs.declared.line.LineBox.{LineBox}
use Rattle.line_place.specs.Line.{Content, unit, combined, atom, nothing, Item, Line}
use Rattle.line_place.specs.Leaves.{leaves}
use Rattle.line_place.specs.Marks.{marks}
use Rattle.line_place.specs.Placing.{line_over, line_under, parts}

abbrev extents : ℤ → ℤ → ℤ → ℤ → ℤ → Extents
extents ascent descent over under raised = record { ascent = ascent; descent = descent; over = over; under = under; raised = raised }

abbrev rect : ℤ → ℤ → ℤ → ℤ → FlowRect
rect i b along across = record { i = i; b = b; inline = along; block = across }

abbrev margins : ℤ → ℤ → Margins
margins positive negative = record { positive = positive; negative = negative }

abbrev name : ℕ → ℕ → BoxName
name node ordinal = record { node = node; ordinal = ordinal }

abbrev run_unit : ℕ → ℕ → ℤ → List (List ℕ) → RunUnit
run_unit first end_ extent glyphs = record { first = first; end = end_; extent = extent; glyphs = glyphs }

abbrev item : ℕ → BidiClass → ℤ → Option ℕ → Bool → Option ℕ → Content → Item
item level class extent inside space apart what =
    record { level = level; class = class; extent = extent; inside = inside; space = space; apart = apart; what = what }

abbrev box : ℕ → Option ℕ → Extents → Direction → ℤ → ℤ → ℤ → ℤ → ℤ → ℤ → Bool → Bool → LineBox
box node outer extents dir left right over under left_margin right_margin first last = record {
  node = node;
  outer = outer;
  extents = extents;
  dir = dir;
  left = left;
  right = right;
  over = over;
  under = under;
  left_margin = left_margin;
  right_margin = right_margin;
  first = first;
  last = last;
}

abbrev a_line : ℕ → Align → ℤ → Extents → List Item → List LineBox → Line
a_line base align available strut items boxes =
    record { base = base; align = align; available = available; strut = strut; items = items; boxes = boxes }

-- a Space at the end hangs
a_space_at_the_end_hangs : parts (a_line 1 End (pos 1280) (extents (pos 768) (pos 256) (pos 768) (pos 256) (pos 0)) ((item 2 L (pos 512) None false None (unit 3 0 1 Along ((105 ∷ []) ∷ []))) ∷ (item 2 WS (pos 512) None true None (unit 3 1 2 Along ((32 ∷ []) ∷ []))) ∷ []) ([])) ≡ (piece (name 3 0) (rect (pos 0) (pos 0) (pos 512) (pos 1024)) (run Along 2 None ((run_unit 0 1 (pos 512) ((105 ∷ []) ∷ [])) ∷ [])) none none)
unfolding reset order visual_order leaves marks
a_space_at_the_end_hangs = refl

-- what X9 leaves in the line parts two items of odd levels
what_parts_two_items : parts (a_line 0 Left (pos 2000) (extents (pos 297) (pos 37) (pos 943) (pos 308) (pos 0)) ((item 0 WS (pos 512) None false None (unit 20 1 2 Turned ((98 ∷ []) ∷ []))) ∷ (item 0 L (pos 1024) None false None (unit 20 2 3 Turned ((49 ∷ []) ∷ []))) ∷ (item 0 WS (pos 1024) None true None (unit 20 3 4 Turned ((32 ∷ []) ∷ []))) ∷ (item 1 AN (pos 0) None false None (unit 20 4 5 Turned ((40 ∷ []) ∷ []))) ∷ (item 1 WS (pos 304) None true (Some 0) (unit 20 5 6 Upright ((32 ∷ []) ∷ []))) ∷ []) ([])) ≡ (piece (name 20 0) (rect (pos 0) (pos 646) (pos 2560) (pos 334)) (run Turned 0 None ((run_unit 1 2 (pos 512) ((98 ∷ []) ∷ [])) ∷ (run_unit 2 3 (pos 1024) ((49 ∷ []) ∷ [])) ∷ (run_unit 3 4 (pos 1024) ((32 ∷ []) ∷ [])) ∷ [])) none (piece (name 20 0) (rect (pos 2560) (pos 646) (pos 0) (pos 334)) (run Turned 1 None ((run_unit 4 5 (pos 0) ((40 ∷ []) ∷ [])) ∷ [])) none none))
unfolding reset order visual_order leaves marks
what_parts_two_items = refl

-- an rtl box with edges
an_rtl_box_in_two_fragments : parts (a_line 0 Start (pos 2560) (extents (pos 768) (pos 256) (pos 768) (pos 256) (pos 0)) ((item 2 NSM (pos 512) (Some 0) false None (unit 4 0 2 Along ((1777 ∷ 769 ∷ []) ∷ []))) ∷ (item 2 L (pos 512) (Some 0) false None (unit 6 0 1 Along ((105 ∷ []) ∷ []))) ∷ []) ((box 3 None (extents (pos 768) (pos 256) (pos 768) (pos 256) (pos 0)) Rtl (pos 64) (pos 0) (pos 0) (pos 0) (pos 0) (pos 0) true true) ∷ [])) ≡ (piece (name 3 0) (rect (pos 0) (pos 0) (pos 1088) (pos 1024)) span (piece (name 4 0) (rect (pos 64) (pos 0) (pos 512) (pos 1024)) (run Along 2 None ((run_unit 0 2 (pos 512) ((1777 ∷ 769 ∷ []) ∷ [])) ∷ [])) none (piece (name 6 0) (rect (pos 576) (pos 0) (pos 512) (pos 1024)) (run Along 2 None ((run_unit 0 1 (pos 512) ((105 ∷ []) ∷ [])) ∷ [])) none none)) none)
unfolding reset order visual_order leaves marks
an_rtl_box_in_two_fragments = refl

-- an inline box in two fragments
two_fragments_of_one_box : parts (a_line 0 Right (pos 5760) (extents (pos 768) (pos 256) (pos 768) (pos 256) (pos 0)) ((item 2 L (pos 1024) None false None (unit 3 1 2 Along ((12354 ∷ []) ∷ []))) ∷ (item 1 ON (pos 1024) None false None (unit 3 2 3 Along ((12289 ∷ []) ∷ []))) ∷ (item 1 NSM (pos 512) None false None (unit 3 3 5 Along ((32 ∷ 769 ∷ []) ∷ []))) ∷ (item 3 ES (pos 1024) (Some 0) false (Some 1) (unit 5 0 1 Along ((43 ∷ []) ∷ []))) ∷ (item 3 ON (pos 2048) (Some 0) false None (unit 5 1 2 Along ((65288 ∷ []) ∷ []))) ∷ (item 3 WS (pos 1024) (Some 0) true None (unit 5 2 3 Along ((32 ∷ []) ∷ []))) ∷ []) ((box 4 None (extents (pos 1536) (pos 512) (pos 2560) (pos 1536) (pos 0)) Rtl (pos 0) (pos 0) (pos 0) (pos 0) (pos 0) (pos 0) true false) ∷ [])) ≡ (piece (name 4 0) (rect (pos 128) (pos 1024) (pos 3072) (pos 2048)) span (piece (name 5 0) (rect (pos 128) (pos 1024) (pos 3072) (pos 2048)) (run Along 3 None ((run_unit 1 2 (pos 2048) ((65288 ∷ []) ∷ [])) ∷ (run_unit 0 1 (pos 1024) ((43 ∷ []) ∷ [])) ∷ [])) none none) (piece (name 3 0) (rect (pos 3200) (pos 1792) (pos 1536) (pos 1024)) (run Along 1 None ((run_unit 3 5 (pos 512) ((32 ∷ 769 ∷ []) ∷ [])) ∷ (run_unit 2 3 (pos 1024) ((12289 ∷ []) ∷ [])) ∷ [])) none (piece (name 3 0) (rect (pos 4736) (pos 1792) (pos 1024) (pos 1024)) (run Along 2 None ((run_unit 1 2 (pos 1024) ((12354 ∷ []) ∷ [])) ∷ [])) none (piece (name 4 0) (rect (pos 5760) (pos 1024) (pos 0) (pos 2048)) span none none))))
unfolding reset order visual_order leaves marks
two_fragments_of_one_box = refl

-- a combined run
a_combined_run : parts (a_line 0 Right (pos 0) (extents (pos 512) (pos 512) (pos 512) (pos 512) (pos 0)) ((item 0 L (pos 1024) None false None (combined 3 0 1 (pos 512) ((1633 ∷ []) ∷ []))) ∷ []) ([])) ≡ (piece (name 3 0) (rect (pos 0) (pos 0) (pos 1024) (pos 1024)) (run Combined 0 (Some (pos 512)) ((run_unit 0 1 (pos 1024) ((1633 ∷ []) ∷ [])) ∷ [])) none none)
unfolding reset order visual_order leaves marks
a_combined_run = refl

-- an atom with margins
an_atom : parts (a_line 0 Center (pos 6537) (extents (pos 650) (pos 195) (pos 845) (pos 146) (pos 0)) ((item 0 ON (pos 399) None false None (atom (piece (name 90 0) (rect (pos 0) (pos 0) (pos 575) (pos 224)) (block HorizontalTb Rtl (rect (pos 64) (pos 0) (pos 511) (pos 160)) None (margins (pos 0) (pos 0)) (margins (pos 0) (pos 0)) false) none none) (pos 93) (pos 91) (negsuc 84) (pos 187))) ∷ []) ((box 3 None (extents (pos 791) (pos 271) (pos 392) (pos 369) (pos 0)) Ltr (pos 0) (pos 0) (pos 0) (pos 122) (pos 0) (negsuc 194) false false) ∷ [])) ≡ (piece (name 90 0) (rect (pos 3162) (pos 1021) (pos 575) (pos 224)) (block HorizontalTb Rtl (rect (pos 64) (pos 0) (pos 511) (pos 160)) None (margins (pos 0) (pos 0)) (margins (pos 0) (pos 0)) false) none none)
unfolding reset order visual_order leaves marks
an_atom = refl

an_atom_over : line_over (a_line 0 Center (pos 6537) (extents (pos 650) (pos 195) (pos 845) (pos 146) (pos 0)) ((item 0 ON (pos 399) None false None (atom (piece (name 90 0) (rect (pos 0) (pos 0) (pos 575) (pos 224)) (block HorizontalTb Rtl (rect (pos 64) (pos 0) (pos 511) (pos 160)) None (margins (pos 0) (pos 0)) (margins (pos 0) (pos 0)) false) none none) (pos 93) (pos 91) (negsuc 84) (pos 187))) ∷ []) ((box 3 None (extents (pos 791) (pos 271) (pos 392) (pos 369) (pos 0)) Ltr (pos 0) (pos 0) (pos 0) (pos 122) (pos 0) (negsuc 194) false false) ∷ [])) ≡ (pos 845)
unfolding reset order visual_order leaves marks
an_atom_over = refl

an_atom_under : line_under (a_line 0 Center (pos 6537) (extents (pos 650) (pos 195) (pos 845) (pos 146) (pos 0)) ((item 0 ON (pos 399) None false None (atom (piece (name 90 0) (rect (pos 0) (pos 0) (pos 575) (pos 224)) (block HorizontalTb Rtl (rect (pos 64) (pos 0) (pos 511) (pos 160)) None (margins (pos 0) (pos 0)) (margins (pos 0) (pos 0)) false) none none) (pos 93) (pos 91) (negsuc 84) (pos 187))) ∷ []) ((box 3 None (extents (pos 791) (pos 271) (pos 392) (pos 369) (pos 0)) Ltr (pos 0) (pos 0) (pos 0) (pos 122) (pos 0) (negsuc 194) false false) ∷ [])) ≡ (pos 187)
unfolding reset order visual_order leaves marks
an_atom_under = refl

-- a br in an inline box
a_break_holds_its_box : parts (a_line 0 Left (pos 19200) (extents (pos 512) (pos 512) (pos 512) (pos 512) (pos 0)) ((item 0 B (pos 0) (Some 0) false None nothing) ∷ []) ((box 3 None (extents (pos 512) (pos 512) (pos 512) (pos 512) (pos 0)) Ltr (pos 0) (pos 0) (pos 0) (pos 0) (pos 0) (pos 0) true false) ∷ [])) ≡ (piece (name 3 0) (rect (pos 0) (pos 0) (pos 0) (pos 1024)) span none none)
unfolding reset order visual_order leaves marks
a_break_holds_its_box = refl

-- a centered line with an odd rest
centered : parts (a_line 0 Center (pos 2560) (extents (pos 768) (pos 256) (pos 768) (pos 256) (pos 0)) ((item 0 ES (pos 512) None false None (unit 3 0 1 Along ((43 ∷ []) ∷ []))) ∷ []) ([])) ≡ (piece (name 3 0) (rect (pos 1024) (pos 0) (pos 512) (pos 1024)) (run Along 0 None ((run_unit 0 1 (pos 512) ((43 ∷ []) ∷ [])) ∷ [])) none none)
unfolding reset order visual_order leaves marks
centered = refl

-- a line that is wider than its available size
too_wide : parts (a_line 1 End (pos 1280) (extents (pos 768) (pos 256) (pos 768) (pos 256) (pos 0)) ((item 3 EN (pos 512) None false None (unit 6 0 1 Along ((49 ∷ []) ∷ []))) ∷ (item 3 EN (pos 512) None false None (unit 6 1 2 Along ((50 ∷ []) ∷ []))) ∷ (item 3 NSM (pos 512) None false None (unit 6 2 4 Along ((32 ∷ 769 ∷ []) ∷ []))) ∷ []) ([])) ≡ (piece (name 6 0) (rect (negsuc 255) (pos 0) (pos 1536) (pos 1024)) (run Along 3 None ((run_unit 2 4 (pos 512) ((32 ∷ 769 ∷ []) ∷ [])) ∷ (run_unit 1 2 (pos 512) ((50 ∷ []) ∷ [])) ∷ (run_unit 0 1 (pos 512) ((49 ∷ []) ∷ [])) ∷ [])) none none)
unfolding reset order visual_order leaves marks
too_wide = refl

-- a run of an odd level
an_rtl_run : parts (a_line 1 Center (pos 0) (extents (pos 88) (pos 105) (pos 703) (pos 344) (pos 0)) ((item 1 WS (pos 1024) None false None (unit 21 0 1 Along ((98 ∷ []) ∷ []))) ∷ (item 1 WS (pos 1507) None true None (unit 22 0 1 Along ((32 ∷ []) ∷ []))) ∷ []) ([])) ≡ (piece (name 21 0) (rect (negsuc 1023) (pos 615) (pos 1024) (pos 193)) (run Along 1 None ((run_unit 0 1 (pos 1024) ((98 ∷ []) ∷ [])) ∷ [])) none none)
unfolding reset order visual_order leaves marks
an_rtl_run = refl

-- an inline box that is raised
raised : parts (a_line 1 Center (pos 0) (extents (pos 820) (pos 120) (pos 570) (pos 94) (pos 0)) ((item 3 R (pos 0) None false None (unit 20 0 1 Turned ((40 ∷ []) ∷ []))) ∷ []) ((box 3 None (extents (pos 658) (pos 133) (pos 557) (negsuc 274) (pos 280)) Rtl (pos 0) (pos 249) (pos 67) (pos 0) (negsuc 161) (pos 0) false false) ∷ [])) ≡ (piece (name 20 0) (rect (pos 0) (negsuc 249) (pos 0) (pos 940)) (run Turned 3 None ((run_unit 0 1 (pos 0) ((40 ∷ []) ∷ [])) ∷ [])) none none)
unfolding reset order visual_order leaves marks
raised = refl

raised_over : line_over (a_line 1 Center (pos 0) (extents (pos 820) (pos 120) (pos 570) (pos 94) (pos 0)) ((item 3 R (pos 0) None false None (unit 20 0 1 Turned ((40 ∷ []) ∷ []))) ∷ []) ((box 3 None (extents (pos 658) (pos 133) (pos 557) (negsuc 274) (pos 280)) Rtl (pos 0) (pos 249) (pos 67) (pos 0) (negsuc 161) (pos 0) false false) ∷ [])) ≡ (pos 570)
unfolding reset order visual_order leaves marks
raised_over = refl

raised_under : line_under (a_line 1 Center (pos 0) (extents (pos 820) (pos 120) (pos 570) (pos 94) (pos 0)) ((item 3 R (pos 0) None false None (unit 20 0 1 Turned ((40 ∷ []) ∷ []))) ∷ []) ((box 3 None (extents (pos 658) (pos 133) (pos 557) (negsuc 274) (pos 280)) Rtl (pos 0) (pos 249) (pos 67) (pos 0) (negsuc 161) (pos 0) false false) ∷ [])) ≡ (pos 94)
unfolding reset order visual_order leaves marks
raised_under = refl

-- a line without items
no_items : parts (a_line 0 Left (pos 0) (extents (pos 4) (pos 108) (pos 627) (pos 379) (pos 0)) ([]) ([])) ≡ none
unfolding reset order visual_order leaves marks
no_items = refl
