-- Pages with the cells, hits and carets that an independent implementation gives them, by computation.
use Rattle.std.specs.Prelude.{◌≡◌, refl, ℕ, false, List, [], ◌∷◌, map, Option, Some, None, ℤ, pos, negsuc}
use Rattle.wm_modes.specs.declared.mode.Direction.{Direction}
use Rattle.wm_modes.specs.declared.mode.Direction.TheVariants as directions
use Rattle.wm_modes.specs.declared.mode.WritingMode.{WritingMode}
use Rattle.wm_modes.specs.declared.mode.WritingMode.TheVariants as modes
use Rattle.wm_modes.specs.declared.rects.Rect.{Rect}
use Rattle.fragment_types.specs.RunUnit.{RunUnit}
use Rattle.fragment_types.specs.declared.item.BoxName.{BoxName}
use Rattle.style_types.specs.declared.style.Baseline.TheVariants as bases
use Rattle.fragment_types.specs.declared.unit_kind.UnitKind.TheVariants as kinds
use Rattle.fragment_types.specs.Fragment.{Kind, block, line, run}
use Rattle.place_map.specs.Placed.{Page, Parts, part, none}
use Rattle.hit_caret.specs.declared.cells.Cell.{Cell}
use Rattle.hit_caret.specs.declared.hits.Hit.{Hit}
use Rattle.hit_caret.specs.declared.rects.Point.{Point}
use Rattle.hit_caret.specs.Carets.{caret, caret_point}
use Rattle.hit_caret.specs.Cells.{cells}
use Rattle.hit_caret.specs.Hits.{hit}

abbrev rect : (x y w h : ℤ) → Rect
rect x y w h = record { x = x; y = y; w = w; h = h }

abbrev point : (x y : ℤ) → Point
point x y = record { x = x; y = y }

-- a box and a line, of which only the mode counts here
abbrev box_of : WritingMode → Direction → Kind
box_of mode dir =
    block mode dir (record { i = pos 0; b = pos 0; inline = pos 0; block = pos 0 }) None (record { positive = pos 0; negative = pos 0 }) (record { positive = pos 0; negative = pos 0 }) false

abbrev line_of : WritingMode → Kind
line_of mode = line 0 (pos 0) mode bases.Alphabetic

abbrev name : (node ordinal : ℕ) → BoxName
name node ordinal = record { node = node; ordinal = ordinal }

abbrev unit : (first end_ : ℕ) (extent : ℤ) → List (List ℕ) → RunUnit
unit first end_ extent glyphs = record { first = first; end = end_; extent = extent; glyphs = glyphs }

abbrev page : Parts → Page
page parts = record { view = record { inline = pos 0; block = pos 0 }; parts = parts }

abbrev cell : (node first end_ level : ℕ) (mode : WritingMode) → Rect → Cell
cell node first end_ level mode rect = record { node = node; first = first; end = end_; level = level; mode = mode; rect = rect }

abbrev hit_of : (node first end_ place : ℕ) → Hit
hit_of node first end_ place = record { node = node; first = first; end = end_; place = place }

-- the carets and the points of carets of a text at these places
abbrev carets : Page → (node : ℕ) → List ℕ → List (Option Rect)
carets page node places = map (λ place. caret page node place) places

abbrev caret_points : Page → (node : ℕ) → List ℕ → List (Option Point)
caret_points page node places = map (λ place. caret_point page node place) places

abbrev hits : Page → List Point → List (Option Hit)
hits page points = map (λ p. hit page p) points

abbrev page-1 : Page
page-1 = page (part (name 0 0) (rect (pos 0) (pos 0) (pos 6400) (pos 2048)) (box_of modes.HorizontalTb directions.Ltr) (part (name 1 0) (rect (pos 512) (pos 512) (pos 5376) (pos 1024)) (box_of modes.HorizontalTb directions.Ltr) (part (name 1 0) (rect (pos 512) (pos 512) (pos 5376) (pos 1024)) (line_of modes.HorizontalTb) (part (name 2 0) (rect (pos 512) (pos 512) (pos 1536) (pos 1024)) (run kinds.Along 0 None ((unit 0 1 (pos 512) []) ∷ (unit 1 2 (pos 512) []) ∷ (unit 2 3 (pos 512) []) ∷ [])) none none) none) none) none)

cells-1 : cells page-1 ≡ (cell 2 0 1 0 modes.HorizontalTb (rect (pos 512) (pos 512) (pos 512) (pos 1024))) ∷ (cell 2 1 2 0 modes.HorizontalTb (rect (pos 1024) (pos 512) (pos 512) (pos 1024))) ∷ (cell 2 2 3 0 modes.HorizontalTb (rect (pos 1536) (pos 512) (pos 512) (pos 1024))) ∷ []
cells-1 = refl

hits-1 : hits page-1 ((point (pos 512) (pos 512)) ∷ (point (pos 1023) (pos 1535)) ∷ (point (pos 768) (pos 1024)) ∷ (point (pos 1024) (pos 512)) ∷ (point (pos 1535) (pos 1535)) ∷ (point (pos 1280) (pos 1024)) ∷ (point (pos 1536) (pos 512)) ∷ (point (pos 2047) (pos 1535)) ∷ (point (pos 1792) (pos 1024)) ∷ (point (pos 2048) (pos 1536)) ∷ (point (negsuc 0) (negsuc 0)) ∷ []) ≡ (Some (hit_of 2 0 1 0)) ∷ (Some (hit_of 2 0 1 1)) ∷ (Some (hit_of 2 0 1 1)) ∷ (Some (hit_of 2 1 2 1)) ∷ (Some (hit_of 2 1 2 2)) ∷ (Some (hit_of 2 1 2 2)) ∷ (Some (hit_of 2 2 3 2)) ∷ (Some (hit_of 2 2 3 3)) ∷ (Some (hit_of 2 2 3 3)) ∷ None ∷ None ∷ []
hits-1 = refl

carets-1-2 : carets page-1 2 (0 ∷ 1 ∷ 2 ∷ 3 ∷ 99 ∷ []) ≡ (Some (rect (pos 512) (pos 512) (pos 0) (pos 1024))) ∷ (Some (rect (pos 1024) (pos 512) (pos 0) (pos 1024))) ∷ (Some (rect (pos 1536) (pos 512) (pos 0) (pos 1024))) ∷ (Some (rect (pos 2048) (pos 512) (pos 0) (pos 1024))) ∷ None ∷ []
carets-1-2 = refl

points-1-2 : caret_points page-1 2 (0 ∷ 1 ∷ 2 ∷ 3 ∷ 99 ∷ []) ≡ (Some (point (pos 512) (pos 512))) ∷ (Some (point (pos 1024) (pos 512))) ∷ (Some (point (pos 1536) (pos 512))) ∷ None ∷ None ∷ []
points-1-2 = refl

abbrev page-2 : Page
page-2 = page (part (name 0 0) (rect (pos 0) (pos 0) (pos 12800) (pos 2048)) (box_of modes.HorizontalTb directions.Rtl) (part (name 1 0) (rect (pos 512) (pos 512) (pos 11776) (pos 1024)) (box_of modes.HorizontalTb directions.Rtl) (part (name 1 0) (rect (pos 512) (pos 512) (pos 11776) (pos 1024)) (line_of modes.HorizontalTb) (part (name 2 0) (rect (pos 10752) (pos 512) (pos 512) (pos 1024)) (run kinds.Along 2 None ((unit 4 5 (pos 512) []) ∷ [])) none (part (name 2 0) (rect (pos 11264) (pos 512) (pos 1024) (pos 1024)) (run kinds.Along 1 None ((unit 3 4 (pos 512) []) ∷ (unit 2 3 (pos 512) []) ∷ [])) none none)) none) none) none)

cells-2 : cells page-2 ≡ (cell 2 4 5 2 modes.HorizontalTb (rect (pos 10752) (pos 512) (pos 512) (pos 1024))) ∷ (cell 2 3 4 1 modes.HorizontalTb (rect (pos 11264) (pos 512) (pos 512) (pos 1024))) ∷ (cell 2 2 3 1 modes.HorizontalTb (rect (pos 11776) (pos 512) (pos 512) (pos 1024))) ∷ []
cells-2 = refl

hits-2 : hits page-2 ((point (pos 10752) (pos 512)) ∷ (point (pos 11263) (pos 1535)) ∷ (point (pos 11008) (pos 1024)) ∷ (point (pos 11264) (pos 512)) ∷ (point (pos 11775) (pos 1535)) ∷ (point (pos 11520) (pos 1024)) ∷ (point (pos 11776) (pos 512)) ∷ (point (pos 12287) (pos 1535)) ∷ (point (pos 12032) (pos 1024)) ∷ (point (pos 12288) (pos 1536)) ∷ (point (negsuc 0) (negsuc 0)) ∷ []) ≡ (Some (hit_of 2 4 5 4)) ∷ (Some (hit_of 2 4 5 5)) ∷ (Some (hit_of 2 4 5 5)) ∷ (Some (hit_of 2 3 4 4)) ∷ (Some (hit_of 2 3 4 3)) ∷ (Some (hit_of 2 3 4 3)) ∷ (Some (hit_of 2 2 3 3)) ∷ (Some (hit_of 2 2 3 2)) ∷ (Some (hit_of 2 2 3 2)) ∷ None ∷ None ∷ []
hits-2 = refl

carets-2-2 : carets page-2 2 (2 ∷ 3 ∷ 4 ∷ 5 ∷ 99 ∷ []) ≡ (Some (rect (pos 12288) (pos 512) (pos 0) (pos 1024))) ∷ (Some (rect (pos 11776) (pos 512) (pos 0) (pos 1024))) ∷ (Some (rect (pos 10752) (pos 512) (pos 0) (pos 1024))) ∷ (Some (rect (pos 11264) (pos 512) (pos 0) (pos 1024))) ∷ None ∷ []
carets-2-2 = refl

points-2-2 : caret_points page-2 2 (2 ∷ 3 ∷ 4 ∷ 5 ∷ 99 ∷ []) ≡ (Some (point (pos 12287) (pos 512))) ∷ (Some (point (pos 11775) (pos 512))) ∷ (Some (point (pos 10752) (pos 512))) ∷ None ∷ None ∷ []
points-2-2 = refl

abbrev page-3 : Page
page-3 = page (part (name 0 0) (rect (pos 2304) (pos 0) (pos 896) (pos 6400)) (box_of modes.VerticalRl directions.Ltr) (part (name 1 0) (rect (pos 2304) (pos 0) (pos 896) (pos 6400)) (box_of modes.VerticalRl directions.Ltr) (part (name 1 0) (rect (pos 2304) (pos 0) (pos 896) (pos 6400)) (line_of modes.VerticalRl) (part (name 4 0) (rect (pos 2304) (pos 0) (pos 896) (pos 2560)) (run kinds.Turned 0 None ((unit 0 1 (pos 512) []) ∷ (unit 1 2 (pos 512) []) ∷ (unit 2 3 (pos 512) []) ∷ (unit 3 4 (pos 512) []) ∷ (unit 4 5 (pos 512) []) ∷ [])) none none) none) none) none)

cells-3 : cells page-3 ≡ (cell 4 0 1 0 modes.VerticalRl (rect (pos 2304) (pos 0) (pos 896) (pos 512))) ∷ (cell 4 1 2 0 modes.VerticalRl (rect (pos 2304) (pos 512) (pos 896) (pos 512))) ∷ (cell 4 2 3 0 modes.VerticalRl (rect (pos 2304) (pos 1024) (pos 896) (pos 512))) ∷ (cell 4 3 4 0 modes.VerticalRl (rect (pos 2304) (pos 1536) (pos 896) (pos 512))) ∷ (cell 4 4 5 0 modes.VerticalRl (rect (pos 2304) (pos 2048) (pos 896) (pos 512))) ∷ []
cells-3 = refl

hits-3 : hits page-3 ((point (pos 2304) (pos 0)) ∷ (point (pos 3199) (pos 511)) ∷ (point (pos 2752) (pos 256)) ∷ (point (pos 2304) (pos 512)) ∷ (point (pos 3199) (pos 1023)) ∷ (point (pos 2752) (pos 768)) ∷ (point (pos 2304) (pos 1024)) ∷ (point (pos 3199) (pos 1535)) ∷ (point (pos 2752) (pos 1280)) ∷ (point (pos 3200) (pos 2560)) ∷ (point (negsuc 0) (negsuc 0)) ∷ []) ≡ (Some (hit_of 4 0 1 0)) ∷ (Some (hit_of 4 0 1 1)) ∷ (Some (hit_of 4 0 1 1)) ∷ (Some (hit_of 4 1 2 1)) ∷ (Some (hit_of 4 1 2 2)) ∷ (Some (hit_of 4 1 2 2)) ∷ (Some (hit_of 4 2 3 2)) ∷ (Some (hit_of 4 2 3 3)) ∷ (Some (hit_of 4 2 3 3)) ∷ None ∷ None ∷ []
hits-3 = refl

carets-3-4 : carets page-3 4 (0 ∷ 1 ∷ 2 ∷ 3 ∷ 4 ∷ 5 ∷ 99 ∷ []) ≡ (Some (rect (pos 2304) (pos 0) (pos 896) (pos 0))) ∷ (Some (rect (pos 2304) (pos 512) (pos 896) (pos 0))) ∷ (Some (rect (pos 2304) (pos 1024) (pos 896) (pos 0))) ∷ (Some (rect (pos 2304) (pos 1536) (pos 896) (pos 0))) ∷ (Some (rect (pos 2304) (pos 2048) (pos 896) (pos 0))) ∷ (Some (rect (pos 2304) (pos 2560) (pos 896) (pos 0))) ∷ None ∷ []
carets-3-4 = refl

points-3-4 : caret_points page-3 4 (0 ∷ 1 ∷ 2 ∷ 3 ∷ 4 ∷ 5 ∷ 99 ∷ []) ≡ (Some (point (pos 3199) (pos 0))) ∷ (Some (point (pos 3199) (pos 512))) ∷ (Some (point (pos 3199) (pos 1024))) ∷ (Some (point (pos 3199) (pos 1536))) ∷ (Some (point (pos 3199) (pos 2048))) ∷ None ∷ None ∷ []
points-3-4 = refl

abbrev page-4 : Page
page-4 = page (part (name 0 0) (rect (pos 4352) (pos 0) (pos 2048) (pos 12800)) (box_of modes.VerticalRl directions.Rtl) (part (name 1 0) (rect (pos 4864) (pos 512) (pos 1024) (pos 11776)) (box_of modes.VerticalRl directions.Rtl) (part (name 2 0) (rect (pos 4864) (pos 12288) (pos 1024) (pos 0)) (box_of modes.VerticalRl directions.Rtl) (part (name 2 0) (rect (pos 4864) (pos 12288) (pos 1024) (pos 0)) (line_of modes.VerticalRl) (part (name 3 0) (rect (pos 4864) (pos 10752) (pos 1024) (pos 1536)) (run kinds.Turned 1 None ((unit 2 3 (pos 512) []) ∷ (unit 1 2 (pos 512) []) ∷ (unit 0 1 (pos 512) []) ∷ [])) none none) none) none) none) none)

cells-4 : cells page-4 ≡ (cell 3 2 3 1 modes.VerticalRl (rect (pos 4864) (pos 10752) (pos 1024) (pos 512))) ∷ (cell 3 1 2 1 modes.VerticalRl (rect (pos 4864) (pos 11264) (pos 1024) (pos 512))) ∷ (cell 3 0 1 1 modes.VerticalRl (rect (pos 4864) (pos 11776) (pos 1024) (pos 512))) ∷ []
cells-4 = refl

hits-4 : hits page-4 ((point (pos 4864) (pos 10752)) ∷ (point (pos 5887) (pos 11263)) ∷ (point (pos 5376) (pos 11008)) ∷ (point (pos 4864) (pos 11264)) ∷ (point (pos 5887) (pos 11775)) ∷ (point (pos 5376) (pos 11520)) ∷ (point (pos 4864) (pos 11776)) ∷ (point (pos 5887) (pos 12287)) ∷ (point (pos 5376) (pos 12032)) ∷ (point (pos 5888) (pos 12288)) ∷ (point (negsuc 0) (negsuc 0)) ∷ []) ≡ (Some (hit_of 3 2 3 3)) ∷ (Some (hit_of 3 2 3 2)) ∷ (Some (hit_of 3 2 3 2)) ∷ (Some (hit_of 3 1 2 2)) ∷ (Some (hit_of 3 1 2 1)) ∷ (Some (hit_of 3 1 2 1)) ∷ (Some (hit_of 3 0 1 1)) ∷ (Some (hit_of 3 0 1 0)) ∷ (Some (hit_of 3 0 1 0)) ∷ None ∷ None ∷ []
hits-4 = refl

carets-4-3 : carets page-4 3 (0 ∷ 1 ∷ 2 ∷ 3 ∷ 99 ∷ []) ≡ (Some (rect (pos 4864) (pos 12288) (pos 1024) (pos 0))) ∷ (Some (rect (pos 4864) (pos 11776) (pos 1024) (pos 0))) ∷ (Some (rect (pos 4864) (pos 11264) (pos 1024) (pos 0))) ∷ (Some (rect (pos 4864) (pos 10752) (pos 1024) (pos 0))) ∷ None ∷ []
carets-4-3 = refl

points-4-3 : caret_points page-4 3 (0 ∷ 1 ∷ 2 ∷ 3 ∷ 99 ∷ []) ≡ (Some (point (pos 5887) (pos 12287))) ∷ (Some (point (pos 5887) (pos 11775))) ∷ (Some (point (pos 5887) (pos 11263))) ∷ None ∷ None ∷ []
points-4-3 = refl

abbrev page-5 : Page
page-5 = page (part (name 0 0) (rect (pos 0) (pos 0) (pos 2048) (pos 12800)) (box_of modes.VerticalLr directions.Ltr) (part (name 1 0) (rect (pos 512) (pos 512) (pos 1024) (pos 0)) (box_of modes.VerticalLr directions.Ltr) (part (name 1 0) (rect (pos 512) (pos 512) (pos 1024) (pos 0)) (line_of modes.VerticalLr) (part (name 2 0) (rect (pos 512) (pos 512) (pos 1024) (pos 2048)) (run kinds.Turned 0 None ((unit 0 1 (pos 512) []) ∷ (unit 1 2 (pos 512) []) ∷ (unit 2 3 (pos 512) []) ∷ (unit 3 4 (pos 512) []) ∷ [])) none none) none) none) none)

cells-5 : cells page-5 ≡ (cell 2 0 1 0 modes.VerticalLr (rect (pos 512) (pos 512) (pos 1024) (pos 512))) ∷ (cell 2 1 2 0 modes.VerticalLr (rect (pos 512) (pos 1024) (pos 1024) (pos 512))) ∷ (cell 2 2 3 0 modes.VerticalLr (rect (pos 512) (pos 1536) (pos 1024) (pos 512))) ∷ (cell 2 3 4 0 modes.VerticalLr (rect (pos 512) (pos 2048) (pos 1024) (pos 512))) ∷ []
cells-5 = refl

hits-5 : hits page-5 ((point (pos 512) (pos 512)) ∷ (point (pos 1535) (pos 1023)) ∷ (point (pos 1024) (pos 768)) ∷ (point (pos 512) (pos 1024)) ∷ (point (pos 1535) (pos 1535)) ∷ (point (pos 1024) (pos 1280)) ∷ (point (pos 512) (pos 1536)) ∷ (point (pos 1535) (pos 2047)) ∷ (point (pos 1024) (pos 1792)) ∷ (point (pos 1536) (pos 2560)) ∷ (point (negsuc 0) (negsuc 0)) ∷ []) ≡ (Some (hit_of 2 0 1 0)) ∷ (Some (hit_of 2 0 1 1)) ∷ (Some (hit_of 2 0 1 1)) ∷ (Some (hit_of 2 1 2 1)) ∷ (Some (hit_of 2 1 2 2)) ∷ (Some (hit_of 2 1 2 2)) ∷ (Some (hit_of 2 2 3 2)) ∷ (Some (hit_of 2 2 3 3)) ∷ (Some (hit_of 2 2 3 3)) ∷ None ∷ None ∷ []
hits-5 = refl

carets-5-2 : carets page-5 2 (0 ∷ 1 ∷ 2 ∷ 3 ∷ 4 ∷ 99 ∷ []) ≡ (Some (rect (pos 512) (pos 512) (pos 1024) (pos 0))) ∷ (Some (rect (pos 512) (pos 1024) (pos 1024) (pos 0))) ∷ (Some (rect (pos 512) (pos 1536) (pos 1024) (pos 0))) ∷ (Some (rect (pos 512) (pos 2048) (pos 1024) (pos 0))) ∷ (Some (rect (pos 512) (pos 2560) (pos 1024) (pos 0))) ∷ None ∷ []
carets-5-2 = refl

points-5-2 : caret_points page-5 2 (0 ∷ 1 ∷ 2 ∷ 3 ∷ 4 ∷ 99 ∷ []) ≡ (Some (point (pos 1535) (pos 512))) ∷ (Some (point (pos 1535) (pos 1024))) ∷ (Some (point (pos 1535) (pos 1536))) ∷ (Some (point (pos 1535) (pos 2048))) ∷ None ∷ None ∷ []
points-5-2 = refl

abbrev page-6 : Page
page-6 = page (part (name 0 0) (rect (pos 0) (pos 0) (pos 2048) (pos 12800)) (box_of modes.VerticalLr directions.Rtl) (part (name 1 0) (rect (pos 512) (pos 512) (pos 1024) (pos 11776)) (box_of modes.VerticalLr directions.Rtl) (part (name 2 0) (rect (pos 512) (negsuc 6911) (pos 1024) (pos 19200)) (box_of modes.VerticalLr directions.Rtl) (part (name 2 0) (rect (pos 512) (negsuc 6911) (pos 1024) (pos 19200)) (line_of modes.VerticalLr) (part (name 3 0) (rect (pos 512) (pos 1664) (pos 1024) (pos 2048)) (run kinds.Turned 1 None ((unit 3 4 (pos 1024) []) ∷ (unit 2 3 (pos 512) []) ∷ (unit 0 1 (pos 512) []) ∷ [])) none none) none) none) none) none)

cells-6 : cells page-6 ≡ (cell 3 3 4 1 modes.VerticalLr (rect (pos 512) (pos 1664) (pos 1024) (pos 1024))) ∷ (cell 3 2 3 1 modes.VerticalLr (rect (pos 512) (pos 2688) (pos 1024) (pos 512))) ∷ (cell 3 0 1 1 modes.VerticalLr (rect (pos 512) (pos 3200) (pos 1024) (pos 512))) ∷ []
cells-6 = refl

hits-6 : hits page-6 ((point (pos 512) (pos 1664)) ∷ (point (pos 1535) (pos 2687)) ∷ (point (pos 1024) (pos 2176)) ∷ (point (pos 512) (pos 2688)) ∷ (point (pos 1535) (pos 3199)) ∷ (point (pos 1024) (pos 2944)) ∷ (point (pos 512) (pos 3200)) ∷ (point (pos 1535) (pos 3711)) ∷ (point (pos 1024) (pos 3456)) ∷ (point (pos 1536) (pos 3712)) ∷ (point (negsuc 0) (negsuc 0)) ∷ []) ≡ (Some (hit_of 3 3 4 4)) ∷ (Some (hit_of 3 3 4 3)) ∷ (Some (hit_of 3 3 4 3)) ∷ (Some (hit_of 3 2 3 3)) ∷ (Some (hit_of 3 2 3 2)) ∷ (Some (hit_of 3 2 3 2)) ∷ (Some (hit_of 3 0 1 1)) ∷ (Some (hit_of 3 0 1 0)) ∷ (Some (hit_of 3 0 1 0)) ∷ None ∷ None ∷ []
hits-6 = refl

carets-6-3 : carets page-6 3 (0 ∷ 1 ∷ 2 ∷ 3 ∷ 4 ∷ 99 ∷ []) ≡ (Some (rect (pos 512) (pos 3712) (pos 1024) (pos 0))) ∷ (Some (rect (pos 512) (pos 3200) (pos 1024) (pos 0))) ∷ (Some (rect (pos 512) (pos 3200) (pos 1024) (pos 0))) ∷ (Some (rect (pos 512) (pos 2688) (pos 1024) (pos 0))) ∷ (Some (rect (pos 512) (pos 1664) (pos 1024) (pos 0))) ∷ None ∷ []
carets-6-3 = refl

points-6-3 : caret_points page-6 3 (0 ∷ 1 ∷ 2 ∷ 3 ∷ 4 ∷ 99 ∷ []) ≡ (Some (point (pos 1535) (pos 3711))) ∷ None ∷ (Some (point (pos 1535) (pos 3199))) ∷ (Some (point (pos 1535) (pos 2687))) ∷ None ∷ None ∷ []
points-6-3 = refl

abbrev page-7 : Page
page-7 = page (part (name 0 0) (rect (pos 1152) (pos 0) (pos 2048) (pos 6400)) (box_of modes.SidewaysRl directions.Ltr) (part (name 1 0) (rect (pos 1664) (pos 512) (pos 1024) (pos 5376)) (box_of modes.SidewaysRl directions.Ltr) (part (name 1 0) (rect (pos 1664) (pos 512) (pos 1024) (pos 5376)) (line_of modes.SidewaysRl) (part (name 2 0) (rect (pos 1664) (pos 512) (pos 1024) (pos 512)) (run kinds.Along 1 None ((unit 0 1 (pos 512) []) ∷ [])) none (part (name 2 0) (rect (pos 1664) (pos 1024) (pos 1024) (pos 2048)) (run kinds.Along 0 None ((unit 1 2 (pos 512) []) ∷ (unit 2 3 (pos 1024) []) ∷ (unit 3 4 (pos 512) []) ∷ [])) none none)) none) none) none)

cells-7 : cells page-7 ≡ (cell 2 0 1 1 modes.SidewaysRl (rect (pos 1664) (pos 512) (pos 1024) (pos 512))) ∷ (cell 2 1 2 0 modes.SidewaysRl (rect (pos 1664) (pos 1024) (pos 1024) (pos 512))) ∷ (cell 2 2 3 0 modes.SidewaysRl (rect (pos 1664) (pos 1536) (pos 1024) (pos 1024))) ∷ (cell 2 3 4 0 modes.SidewaysRl (rect (pos 1664) (pos 2560) (pos 1024) (pos 512))) ∷ []
cells-7 = refl

hits-7 : hits page-7 ((point (pos 1664) (pos 512)) ∷ (point (pos 2687) (pos 1023)) ∷ (point (pos 2176) (pos 768)) ∷ (point (pos 1664) (pos 1024)) ∷ (point (pos 2687) (pos 1535)) ∷ (point (pos 2176) (pos 1280)) ∷ (point (pos 1664) (pos 1536)) ∷ (point (pos 2687) (pos 2559)) ∷ (point (pos 2176) (pos 2048)) ∷ (point (pos 2688) (pos 3072)) ∷ (point (negsuc 0) (negsuc 0)) ∷ []) ≡ (Some (hit_of 2 0 1 1)) ∷ (Some (hit_of 2 0 1 0)) ∷ (Some (hit_of 2 0 1 0)) ∷ (Some (hit_of 2 1 2 1)) ∷ (Some (hit_of 2 1 2 2)) ∷ (Some (hit_of 2 1 2 2)) ∷ (Some (hit_of 2 2 3 2)) ∷ (Some (hit_of 2 2 3 3)) ∷ (Some (hit_of 2 2 3 3)) ∷ None ∷ None ∷ []
hits-7 = refl

carets-7-2 : carets page-7 2 (0 ∷ 1 ∷ 2 ∷ 3 ∷ 4 ∷ 99 ∷ []) ≡ (Some (rect (pos 1664) (pos 1024) (pos 1024) (pos 0))) ∷ (Some (rect (pos 1664) (pos 1024) (pos 1024) (pos 0))) ∷ (Some (rect (pos 1664) (pos 1536) (pos 1024) (pos 0))) ∷ (Some (rect (pos 1664) (pos 2560) (pos 1024) (pos 0))) ∷ (Some (rect (pos 1664) (pos 3072) (pos 1024) (pos 0))) ∷ None ∷ []
carets-7-2 = refl

points-7-2 : caret_points page-7 2 (0 ∷ 1 ∷ 2 ∷ 3 ∷ 4 ∷ 99 ∷ []) ≡ (Some (point (pos 2687) (pos 1023))) ∷ (Some (point (pos 2687) (pos 1024))) ∷ (Some (point (pos 2687) (pos 1536))) ∷ (Some (point (pos 2687) (pos 2560))) ∷ None ∷ None ∷ []
points-7-2 = refl

abbrev page-8 : Page
page-8 = page (part (name 0 0) (rect (pos 1152) (pos 0) (pos 2048) (pos 6400)) (box_of modes.SidewaysRl directions.Rtl) (part (name 1 0) (rect (pos 1664) (pos 512) (pos 1024) (pos 5376)) (box_of modes.SidewaysRl directions.Rtl) (part (name 2 0) (rect (pos 1664) (pos 128) (pos 1024) (pos 5760)) (box_of modes.SidewaysRl directions.Rtl) (part (name 2 0) (rect (pos 1664) (pos 128) (pos 1024) (pos 5760)) (line_of modes.SidewaysRl) (part (name 3 0) (rect (pos 1664) (pos 3328) (pos 1024) (pos 512)) (run kinds.Along 3 None ((unit 4 5 (pos 512) []) ∷ [])) none (part (name 3 0) (rect (pos 1664) (pos 3840) (pos 1024) (pos 2048)) (run kinds.Along 2 None ((unit 1 2 (pos 1024) []) ∷ (unit 2 3 (pos 1024) []) ∷ [])) none none)) none) none) none) none)

cells-8 : cells page-8 ≡ (cell 3 4 5 3 modes.SidewaysRl (rect (pos 1664) (pos 3328) (pos 1024) (pos 512))) ∷ (cell 3 1 2 2 modes.SidewaysRl (rect (pos 1664) (pos 3840) (pos 1024) (pos 1024))) ∷ (cell 3 2 3 2 modes.SidewaysRl (rect (pos 1664) (pos 4864) (pos 1024) (pos 1024))) ∷ []
cells-8 = refl

hits-8 : hits page-8 ((point (pos 1664) (pos 3328)) ∷ (point (pos 2687) (pos 3839)) ∷ (point (pos 2176) (pos 3584)) ∷ (point (pos 1664) (pos 3840)) ∷ (point (pos 2687) (pos 4863)) ∷ (point (pos 2176) (pos 4352)) ∷ (point (pos 1664) (pos 4864)) ∷ (point (pos 2687) (pos 5887)) ∷ (point (pos 2176) (pos 5376)) ∷ (point (pos 2688) (pos 5888)) ∷ (point (negsuc 0) (negsuc 0)) ∷ []) ≡ (Some (hit_of 3 4 5 5)) ∷ (Some (hit_of 3 4 5 4)) ∷ (Some (hit_of 3 4 5 4)) ∷ (Some (hit_of 3 1 2 1)) ∷ (Some (hit_of 3 1 2 2)) ∷ (Some (hit_of 3 1 2 2)) ∷ (Some (hit_of 3 2 3 2)) ∷ (Some (hit_of 3 2 3 3)) ∷ (Some (hit_of 3 2 3 3)) ∷ None ∷ None ∷ []
hits-8 = refl

carets-8-3 : carets page-8 3 (1 ∷ 2 ∷ 3 ∷ 4 ∷ 5 ∷ 99 ∷ []) ≡ (Some (rect (pos 1664) (pos 3840) (pos 1024) (pos 0))) ∷ (Some (rect (pos 1664) (pos 4864) (pos 1024) (pos 0))) ∷ (Some (rect (pos 1664) (pos 5888) (pos 1024) (pos 0))) ∷ (Some (rect (pos 1664) (pos 3840) (pos 1024) (pos 0))) ∷ (Some (rect (pos 1664) (pos 3328) (pos 1024) (pos 0))) ∷ None ∷ []
carets-8-3 = refl

points-8-3 : caret_points page-8 3 (1 ∷ 2 ∷ 3 ∷ 4 ∷ 5 ∷ 99 ∷ []) ≡ (Some (point (pos 2687) (pos 3840))) ∷ (Some (point (pos 2687) (pos 4864))) ∷ None ∷ (Some (point (pos 2687) (pos 3839))) ∷ None ∷ None ∷ []
points-8-3 = refl

abbrev page-9 : Page
page-9 = page (part (name 0 0) (rect (pos 0) (pos 0) (pos 1920) (pos 6400)) (box_of modes.SidewaysLr directions.Ltr) (part (name 1 0) (rect (pos 512) (pos 512) (pos 896) (pos 5376)) (box_of modes.SidewaysLr directions.Ltr) (part (name 1 0) (rect (pos 512) (pos 512) (pos 896) (pos 5376)) (line_of modes.SidewaysLr) (part (name 2 0) (rect (pos 512) (pos 2816) (pos 896) (pos 3072)) (run kinds.Along 0 None ((unit 0 1 (pos 1024) []) ∷ (unit 1 2 (pos 1024) []) ∷ (unit 2 3 (pos 512) []) ∷ (unit 3 4 (pos 512) []) ∷ [])) none none) none) none) none)

cells-9 : cells page-9 ≡ (cell 2 0 1 0 modes.SidewaysLr (rect (pos 512) (pos 4864) (pos 896) (pos 1024))) ∷ (cell 2 1 2 0 modes.SidewaysLr (rect (pos 512) (pos 3840) (pos 896) (pos 1024))) ∷ (cell 2 2 3 0 modes.SidewaysLr (rect (pos 512) (pos 3328) (pos 896) (pos 512))) ∷ (cell 2 3 4 0 modes.SidewaysLr (rect (pos 512) (pos 2816) (pos 896) (pos 512))) ∷ []
cells-9 = refl

hits-9 : hits page-9 ((point (pos 512) (pos 4864)) ∷ (point (pos 1407) (pos 5887)) ∷ (point (pos 960) (pos 5376)) ∷ (point (pos 512) (pos 3840)) ∷ (point (pos 1407) (pos 4863)) ∷ (point (pos 960) (pos 4352)) ∷ (point (pos 512) (pos 3328)) ∷ (point (pos 1407) (pos 3839)) ∷ (point (pos 960) (pos 3584)) ∷ (point (pos 1408) (pos 3328)) ∷ (point (negsuc 0) (negsuc 0)) ∷ []) ≡ (Some (hit_of 2 0 1 1)) ∷ (Some (hit_of 2 0 1 0)) ∷ (Some (hit_of 2 0 1 0)) ∷ (Some (hit_of 2 1 2 2)) ∷ (Some (hit_of 2 1 2 1)) ∷ (Some (hit_of 2 1 2 1)) ∷ (Some (hit_of 2 2 3 3)) ∷ (Some (hit_of 2 2 3 2)) ∷ (Some (hit_of 2 2 3 2)) ∷ None ∷ None ∷ []
hits-9 = refl

carets-9-2 : carets page-9 2 (0 ∷ 1 ∷ 2 ∷ 3 ∷ 4 ∷ 99 ∷ []) ≡ (Some (rect (pos 512) (pos 5888) (pos 896) (pos 0))) ∷ (Some (rect (pos 512) (pos 4864) (pos 896) (pos 0))) ∷ (Some (rect (pos 512) (pos 3840) (pos 896) (pos 0))) ∷ (Some (rect (pos 512) (pos 3328) (pos 896) (pos 0))) ∷ (Some (rect (pos 512) (pos 2816) (pos 896) (pos 0))) ∷ None ∷ []
carets-9-2 = refl

points-9-2 : caret_points page-9 2 (0 ∷ 1 ∷ 2 ∷ 3 ∷ 4 ∷ 99 ∷ []) ≡ (Some (point (pos 512) (pos 5887))) ∷ (Some (point (pos 512) (pos 4863))) ∷ (Some (point (pos 512) (pos 3839))) ∷ (Some (point (pos 512) (pos 3327))) ∷ None ∷ None ∷ []
points-9-2 = refl

abbrev page-10 : Page
page-10 = page (part (name 0 0) (rect (pos 0) (pos 0) (pos 2048) (pos 7552)) (box_of modes.SidewaysLr directions.Rtl) (part (name 1 0) (rect (pos 512) (pos 512) (pos 1024) (pos 6528)) (box_of modes.SidewaysLr directions.Rtl) (part (name 2 0) (rect (pos 512) (pos 512) (pos 1024) (pos 5760)) (box_of modes.SidewaysLr directions.Rtl) (part (name 2 0) (rect (pos 512) (pos 512) (pos 1024) (pos 5760)) (line_of modes.SidewaysLr) (part (name 3 0) (rect (pos 512) (pos 3136) (pos 1024) (pos 1024)) (run kinds.Along 2 None ((unit 1 2 (pos 512) []) ∷ (unit 2 3 (pos 512) []) ∷ [])) none (part (name 3 0) (rect (pos 512) (pos 2624) (pos 1024) (pos 512)) (run kinds.Along 1 None ((unit 0 1 (pos 512) []) ∷ [])) none none)) none) none) none) none)

cells-10 : cells page-10 ≡ (cell 3 1 2 2 modes.SidewaysLr (rect (pos 512) (pos 3648) (pos 1024) (pos 512))) ∷ (cell 3 2 3 2 modes.SidewaysLr (rect (pos 512) (pos 3136) (pos 1024) (pos 512))) ∷ (cell 3 0 1 1 modes.SidewaysLr (rect (pos 512) (pos 2624) (pos 1024) (pos 512))) ∷ []
cells-10 = refl

hits-10 : hits page-10 ((point (pos 512) (pos 3648)) ∷ (point (pos 1535) (pos 4159)) ∷ (point (pos 1024) (pos 3904)) ∷ (point (pos 512) (pos 3136)) ∷ (point (pos 1535) (pos 3647)) ∷ (point (pos 1024) (pos 3392)) ∷ (point (pos 512) (pos 2624)) ∷ (point (pos 1535) (pos 3135)) ∷ (point (pos 1024) (pos 2880)) ∷ (point (pos 1536) (pos 3136)) ∷ (point (negsuc 0) (negsuc 0)) ∷ []) ≡ (Some (hit_of 3 1 2 2)) ∷ (Some (hit_of 3 1 2 1)) ∷ (Some (hit_of 3 1 2 1)) ∷ (Some (hit_of 3 2 3 3)) ∷ (Some (hit_of 3 2 3 2)) ∷ (Some (hit_of 3 2 3 2)) ∷ (Some (hit_of 3 0 1 0)) ∷ (Some (hit_of 3 0 1 1)) ∷ (Some (hit_of 3 0 1 1)) ∷ None ∷ None ∷ []
hits-10 = refl

carets-10-3 : carets page-10 3 (0 ∷ 1 ∷ 2 ∷ 3 ∷ 99 ∷ []) ≡ (Some (rect (pos 512) (pos 2624) (pos 1024) (pos 0))) ∷ (Some (rect (pos 512) (pos 4160) (pos 1024) (pos 0))) ∷ (Some (rect (pos 512) (pos 3648) (pos 1024) (pos 0))) ∷ (Some (rect (pos 512) (pos 3136) (pos 1024) (pos 0))) ∷ None ∷ []
carets-10-3 = refl

points-10-3 : caret_points page-10 3 (0 ∷ 1 ∷ 2 ∷ 3 ∷ 99 ∷ []) ≡ (Some (point (pos 512) (pos 2624))) ∷ (Some (point (pos 512) (pos 4159))) ∷ (Some (point (pos 512) (pos 3647))) ∷ None ∷ None ∷ []
points-10-3 = refl

abbrev page-11 : Page
page-11 = page (part (name 0 0) (rect (pos 1280) (pos 0) (pos 1920) (pos 6400)) (box_of modes.VerticalRl directions.Ltr) (part (name 1 0) (rect (pos 1792) (pos 512) (pos 896) (pos 5376)) (box_of modes.VerticalRl directions.Ltr) (part (name 1 0) (rect (pos 1792) (pos 512) (pos 896) (pos 5376)) (line_of modes.VerticalRl) (part (name 2 0) (rect (pos 1792) (pos 512) (pos 896) (pos 2048)) (run kinds.Upright 0 None ((unit 0 1 (pos 1024) []) ∷ (unit 1 2 (pos 1024) []) ∷ [])) none (part (name 2 0) (rect (pos 1792) (pos 2560) (pos 896) (pos 1024)) (run kinds.Combined 0 None ((unit 2 4 (pos 1024) []) ∷ [])) none none)) none) none) none)

cells-11 : cells page-11 ≡ (cell 2 0 1 0 modes.VerticalRl (rect (pos 1792) (pos 512) (pos 896) (pos 1024))) ∷ (cell 2 1 2 0 modes.VerticalRl (rect (pos 1792) (pos 1536) (pos 896) (pos 1024))) ∷ (cell 2 2 4 0 modes.VerticalRl (rect (pos 1792) (pos 2560) (pos 896) (pos 1024))) ∷ []
cells-11 = refl

hits-11 : hits page-11 ((point (pos 1792) (pos 512)) ∷ (point (pos 2687) (pos 1535)) ∷ (point (pos 2240) (pos 1024)) ∷ (point (pos 1792) (pos 1536)) ∷ (point (pos 2687) (pos 2559)) ∷ (point (pos 2240) (pos 2048)) ∷ (point (pos 1792) (pos 2560)) ∷ (point (pos 2687) (pos 3583)) ∷ (point (pos 2240) (pos 3072)) ∷ (point (pos 2688) (pos 3584)) ∷ (point (negsuc 0) (negsuc 0)) ∷ []) ≡ (Some (hit_of 2 0 1 0)) ∷ (Some (hit_of 2 0 1 1)) ∷ (Some (hit_of 2 0 1 1)) ∷ (Some (hit_of 2 1 2 1)) ∷ (Some (hit_of 2 1 2 2)) ∷ (Some (hit_of 2 1 2 2)) ∷ (Some (hit_of 2 2 4 2)) ∷ (Some (hit_of 2 2 4 4)) ∷ (Some (hit_of 2 2 4 4)) ∷ None ∷ None ∷ []
hits-11 = refl

carets-11-2 : carets page-11 2 (0 ∷ 1 ∷ 2 ∷ 4 ∷ 99 ∷ []) ≡ (Some (rect (pos 1792) (pos 512) (pos 896) (pos 0))) ∷ (Some (rect (pos 1792) (pos 1536) (pos 896) (pos 0))) ∷ (Some (rect (pos 1792) (pos 2560) (pos 896) (pos 0))) ∷ (Some (rect (pos 1792) (pos 3584) (pos 896) (pos 0))) ∷ None ∷ []
carets-11-2 = refl

points-11-2 : caret_points page-11 2 (0 ∷ 1 ∷ 2 ∷ 4 ∷ 99 ∷ []) ≡ (Some (point (pos 2687) (pos 512))) ∷ (Some (point (pos 2687) (pos 1536))) ∷ (Some (point (pos 2687) (pos 2560))) ∷ None ∷ None ∷ []
points-11-2 = refl

abbrev page-12 : Page
page-12 = page (part (name 0 0) (rect (pos 0) (pos 0) (pos 51200) (pos 1344)) (box_of modes.HorizontalTb directions.Ltr) (part (name 1 0) (rect (pos 512) (pos 0) (pos 50176) (pos 1344)) (box_of modes.HorizontalTb directions.Ltr) (part (name 1 1) (rect (pos 512) (pos 0) (pos 50176) (pos 1024)) (box_of modes.HorizontalTb directions.Ltr) (part (name 1 1) (rect (pos 512) (pos 0) (pos 50176) (pos 1024)) (line_of modes.HorizontalTb) (part (name 2 0) (rect (pos 512) (pos 0) (pos 512) (pos 1024)) (run kinds.Along 0 None ((unit 0 1 (pos 512) []) ∷ [])) none none) none) (part (name 3 0) (rect (pos 512) (pos 1024) (pos 50176) (pos 320)) (box_of modes.HorizontalTb directions.Ltr) (part (name 3 0) (rect (pos 512) (pos 1024) (pos 50176) (pos 320)) (line_of modes.HorizontalTb) (part (name 4 0) (rect (pos 512) (pos 672) (pos 1024) (pos 1024)) (run kinds.Along 0 None ((unit 0 1 (pos 512) []) ∷ (unit 1 2 (pos 512) []) ∷ [])) none none) none) none)) none) none)

cells-12 : cells page-12 ≡ (cell 2 0 1 0 modes.HorizontalTb (rect (pos 512) (pos 0) (pos 512) (pos 1024))) ∷ (cell 4 0 1 0 modes.HorizontalTb (rect (pos 512) (pos 672) (pos 512) (pos 1024))) ∷ (cell 4 1 2 0 modes.HorizontalTb (rect (pos 1024) (pos 672) (pos 512) (pos 1024))) ∷ []
cells-12 = refl

hits-12 : hits page-12 ((point (pos 512) (pos 0)) ∷ (point (pos 1023) (pos 1023)) ∷ (point (pos 768) (pos 512)) ∷ (point (pos 512) (pos 672)) ∷ (point (pos 1023) (pos 1695)) ∷ (point (pos 768) (pos 1184)) ∷ (point (pos 1024) (pos 672)) ∷ (point (pos 1535) (pos 1695)) ∷ (point (pos 1280) (pos 1184)) ∷ (point (pos 768) (pos 848)) ∷ (point (pos 1536) (pos 1696)) ∷ (point (negsuc 0) (negsuc 0)) ∷ []) ≡ (Some (hit_of 2 0 1 0)) ∷ (Some (hit_of 4 0 1 1)) ∷ (Some (hit_of 2 0 1 1)) ∷ (Some (hit_of 4 0 1 0)) ∷ (Some (hit_of 4 0 1 1)) ∷ (Some (hit_of 4 0 1 1)) ∷ (Some (hit_of 4 1 2 1)) ∷ (Some (hit_of 4 1 2 2)) ∷ (Some (hit_of 4 1 2 2)) ∷ (Some (hit_of 4 0 1 1)) ∷ None ∷ None ∷ []
hits-12 = refl

carets-12-2 : carets page-12 2 (0 ∷ 1 ∷ 99 ∷ []) ≡ (Some (rect (pos 512) (pos 0) (pos 0) (pos 1024))) ∷ (Some (rect (pos 1024) (pos 0) (pos 0) (pos 1024))) ∷ None ∷ []
carets-12-2 = refl

points-12-2 : caret_points page-12 2 (0 ∷ 1 ∷ 99 ∷ []) ≡ (Some (point (pos 512) (pos 0))) ∷ None ∷ None ∷ []
points-12-2 = refl

carets-12-4 : carets page-12 4 (0 ∷ 1 ∷ 2 ∷ 99 ∷ []) ≡ (Some (rect (pos 512) (pos 672) (pos 0) (pos 1024))) ∷ (Some (rect (pos 1024) (pos 672) (pos 0) (pos 1024))) ∷ (Some (rect (pos 1536) (pos 672) (pos 0) (pos 1024))) ∷ None ∷ []
carets-12-4 = refl

points-12-4 : caret_points page-12 4 (0 ∷ 1 ∷ 2 ∷ 99 ∷ []) ≡ (Some (point (pos 512) (pos 672))) ∷ (Some (point (pos 1024) (pos 672))) ∷ None ∷ None ∷ []
points-12-4 = refl

-- two characters in a paragraph from left to right: points in each, at the edge between them, at the far corner and past it
abbrev page-13 : Page
page-13 = page (part (name 0 0) (rect (pos 0) (pos 0) (pos 12800) (pos 1024)) (box_of modes.HorizontalTb directions.Ltr) (part (name 1 0) (rect (pos 0) (pos 0) (pos 12800) (pos 1024)) (box_of modes.HorizontalTb directions.Ltr) (part (name 2 0) (rect (pos 0) (pos 0) (pos 12800) (pos 1024)) (box_of modes.HorizontalTb directions.Ltr) (part (name 2 0) (rect (pos 0) (pos 0) (pos 12800) (pos 1024)) (line_of modes.HorizontalTb) (part (name 3 0) (rect (pos 0) (pos 0) (pos 1024) (pos 1024)) (run kinds.Along 0 None ((unit 0 1 (pos 512) []) ∷ (unit 1 2 (pos 512) []) ∷ [])) none none) none) none) none) none)

hits-13 : hits page-13 ((point (pos 100) (pos 5)) ∷ (point (pos 300) (pos 5)) ∷ (point (pos 600) (pos 1023)) ∷ (point (pos 1024) (pos 0)) ∷ []) ≡ (Some (hit_of 3 0 1 0)) ∷ (Some (hit_of 3 0 1 1)) ∷ (Some (hit_of 3 1 2 1)) ∷ None ∷ []
hits-13 = refl

carets-13-3 : carets page-13 3 (1 ∷ 2 ∷ 3 ∷ []) ≡ (Some (rect (pos 512) (pos 0) (pos 0) (pos 1024))) ∷ (Some (rect (pos 1024) (pos 0) (pos 0) (pos 1024))) ∷ None ∷ []
carets-13-3 = refl

-- the same in a line that goes up: its text begins at the bottom
abbrev page-14 : Page
page-14 = page (part (name 0 0) (rect (pos 0) (pos 0) (pos 3072) (pos 6400)) (box_of modes.SidewaysLr directions.Ltr) (part (name 1 0) (rect (pos 1024) (pos 512) (pos 1024) (pos 5376)) (box_of modes.SidewaysLr directions.Ltr) (part (name 2 0) (rect (pos 1024) (pos 512) (pos 1024) (pos 5376)) (box_of modes.SidewaysLr directions.Ltr) (part (name 2 0) (rect (pos 1024) (pos 512) (pos 1024) (pos 5376)) (line_of modes.SidewaysLr) (part (name 3 0) (rect (pos 1024) (pos 4864) (pos 1024) (pos 1024)) (run kinds.Along 0 None ((unit 0 1 (pos 512) []) ∷ (unit 1 2 (pos 512) []) ∷ [])) none none) none) none) none) none)

hits-14 : hits page-14 ((point (pos 1100) (pos 5880)) ∷ []) ≡ (Some (hit_of 3 0 1 0)) ∷ []
hits-14 = refl

carets-14-3 : carets page-14 3 (0 ∷ []) ≡ (Some (rect (pos 1024) (pos 5888) (pos 1024) (pos 0))) ∷ []
carets-14-3 = refl
