-- Pages with their shifts, by computation: one worked by hand, and some that an independent implementation gives.
use Rattle.std.specs.Prelude.{◌≡◌, refl, ℕ, [], ◌∷◌, false, ℤ, pos, negsuc, Option, Some, None}
use Rattle.wm_modes.specs.declared.mode.Direction.{Direction}
use Rattle.wm_modes.specs.declared.mode.Direction.TheVariants as directions
use Rattle.wm_modes.specs.declared.mode.WritingMode.{WritingMode}
use Rattle.wm_modes.specs.declared.mode.WritingMode.TheVariants as modes
use Rattle.wm_modes.specs.declared.rects.Rect.{Rect}
use Rattle.style_types.specs.declared.style.Baseline.TheVariants.{Alphabetic}
use Rattle.style_types.specs.declared.style.Size.{Size}
use Rattle.style_types.specs.declared.style.Size.TheVariants.{Auto, Length, Percent}
use Rattle.fragment_types.specs.Fragment.{Kind, block, line, span, run}
use Rattle.fragment_types.specs.declared.item.BoxName.{BoxName}
use Rattle.fragment_types.specs.declared.unit_kind.UnitKind.TheVariants.{Along}
use Rattle.place_map.specs.Placed.{Page, Parts, none, part}
use Rattle.rel_shift.specs.Shifting.{shift}
use Rattle.style_types.specs.declared.style.Insets.{Insets}
use Rattle.style_types.specs.declared.position.Position.{Position}

abbrev insets : (top right bottom left : Size) → Insets
insets top right bottom left = record { top = top; right = right; bottom = bottom; left = left }

abbrev at : (node : ℕ) → (parent holder : Option ℕ) → Option Insets → Position
at node parent holder insets = record { node = node; parent = parent; holder = holder; insets = insets }

abbrev name : (node ordinal : ℕ) → BoxName
name node ordinal = record { node = node; ordinal = ordinal }

abbrev rect : (x y w h : ℤ) → Rect
rect x y w h = record { x = x; y = y; w = w; h = h }

-- what is told of a box, a line and a run here: nothing else has to do with shifts
abbrev box : WritingMode → Direction → (inline_size block_size : ℤ) → (definite : Option ℤ) → Kind
box mode dir inline_size block_size definite = block mode dir (record { i = pos 0; b = pos 0; inline = inline_size; block = block_size }) definite (record { positive = pos 0; negative = pos 0 }) (record { positive = pos 0; negative = pos 0 }) false

abbrev row : WritingMode → Kind
row mode = line 0 (pos 0) mode Alphabetic

abbrev text : Kind
text = run Along 0 None []

abbrev page : (inline_size block_size : ℤ) → Parts → Page
page inline_size block_size parts = record { view = record { inline = inline_size; block = block_size }; parts = parts }

-- what stands in an element goes with it, what stands beside it stays
inside_goes_along : shift (page (pos 12800) (pos 9600) (part (name 0 0) (rect (pos 0) (pos 0) (pos 12800) (pos 1280)) (box modes.HorizontalTb directions.Ltr (pos 12800) (pos 1280) None) (part (name 1 0) (rect (pos 0) (pos 0) (pos 12800) (pos 1280)) (box modes.HorizontalTb directions.Ltr (pos 12800) (pos 1280) None) (part (name 2 0) (rect (pos 0) (pos 0) (pos 12800) (pos 640)) (box modes.HorizontalTb directions.Ltr (pos 12800) (pos 640) (Some (pos 640))) (part (name 3 0) (rect (pos 0) (pos 0) (pos 12800) (pos 256)) (box modes.HorizontalTb directions.Ltr (pos 12800) (pos 256) (Some (pos 256))) none none) (part (name 4 0) (rect (pos 0) (pos 640) (pos 12800) (pos 640)) (box modes.HorizontalTb directions.Ltr (pos 12800) (pos 640) (Some (pos 640))) none none)) none) none)) (at 0 None None None ∷ at 1 (Some 0) (Some 0) None ∷ at 2 (Some 1) (Some 1) (Some (insets (Length (pos 320)) Auto Auto (Percent (pos 1000)))) ∷ at 3 (Some 2) (Some 2) None ∷ at 4 (Some 1) (Some 1) None ∷ []) ≡ (page (pos 12800) (pos 9600) (part (name 0 0) (rect (pos 0) (pos 0) (pos 12800) (pos 1280)) (box modes.HorizontalTb directions.Ltr (pos 12800) (pos 1280) None) (part (name 1 0) (rect (pos 0) (pos 0) (pos 12800) (pos 1280)) (box modes.HorizontalTb directions.Ltr (pos 12800) (pos 1280) None) (part (name 2 0) (rect (pos 1280) (pos 320) (pos 12800) (pos 640)) (box modes.HorizontalTb directions.Ltr (pos 12800) (pos 640) (Some (pos 640))) (part (name 3 0) (rect (pos 1280) (pos 320) (pos 12800) (pos 256)) (box modes.HorizontalTb directions.Ltr (pos 12800) (pos 256) (Some (pos 256))) none none) (part (name 4 0) (rect (pos 0) (pos 640) (pos 12800) (pos 640)) (box modes.HorizontalTb directions.Ltr (pos 12800) (pos 640) (Some (pos 640))) none none)) none) none))
inside_goes_along = refl

page-1 : shift (page (pos 7680) (pos 7552) (part (name 0 0) (rect (pos 0) (pos 0) (pos 7680) (pos 6144)) (box modes.HorizontalTb directions.Ltr (pos 7680) (pos 6144) None) (part (name 1 0) (rect (pos 0) (pos 0) (pos 7680) (pos 6144)) (box modes.HorizontalTb directions.Ltr (pos 7680) (pos 6144) None) (part (name 1 1) (rect (pos 0) (pos 0) (pos 7680) (pos 1024)) (box modes.HorizontalTb directions.Ltr (pos 7680) (pos 1024) None) (part (name 1 1) (rect (pos 0) (pos 0) (pos 7680) (pos 1024)) (row modes.HorizontalTb) (part (name 2 0) (rect (pos 0) (pos 0) (pos 2048) (pos 1024)) text none none) none) (part (name 3 0) (rect (pos 1024) (pos 1024) (pos 5120) (pos 4096)) (box modes.VerticalLr directions.Ltr (pos 5120) (pos 4096) None) (part (name 7 0) (rect (pos 1024) (pos 1024) (pos 1024) (pos 4096)) (box modes.VerticalLr directions.Ltr (pos 4096) (pos 1024) None) (part (name 7 0) (rect (pos 1024) (pos 1024) (pos 1024) (pos 4096)) (row modes.VerticalLr) (part (name 8 0) (rect (pos 1024) (pos 1024) (pos 1024) (pos 1024)) text none none) none) (part (name 3 1) (rect (pos 2048) (pos 1024) (pos 1024) (pos 4096)) (box modes.VerticalLr directions.Ltr (pos 4096) (pos 1024) None) (part (name 3 1) (rect (pos 2048) (pos 1024) (pos 1024) (pos 4096)) (row modes.VerticalLr) (part (name 5 0) (rect (pos 2048) (pos 1024) (pos 1024) (pos 2048)) span (part (name 9 0) (rect (pos 2048) (pos 1024) (pos 1024) (pos 2048)) text none none) (part (name 10 0) (rect (pos 2048) (pos 3072) (pos 1024) (pos 1024)) text none none)) none) (part (name 11 0) (rect (pos 3072) (pos 1024) (pos 1024) (pos 4096)) (box modes.VerticalLr directions.Ltr (pos 4096) (pos 1024) None) (part (name 11 0) (rect (pos 3072) (pos 1024) (pos 1024) (pos 4096)) (row modes.VerticalLr) (part (name 12 0) (rect (pos 3072) (pos 1024) (pos 1024) (pos 1024)) text none (part (name 13 0) (rect (pos 3072) (pos 2048) (pos 1024) (pos 1024)) span (part (name 14 0) (rect (pos 3072) (pos 2048) (pos 1024) (pos 1024)) text none none) (part (name 15 0) (rect (pos 3072) (pos 3072) (pos 1024) (pos 1024)) text none none))) none) (part (name 3 2) (rect (pos 4096) (pos 1024) (pos 2048) (pos 4096)) (box modes.VerticalLr directions.Ltr (pos 4096) (pos 2048) None) (part (name 3 2) (rect (pos 4096) (pos 1024) (pos 1024) (pos 4096)) (row modes.VerticalLr) (part (name 16 0) (rect (pos 4096) (pos 1024) (pos 1024) (pos 4096)) text none none) (part (name 3 2) (rect (pos 5120) (pos 1024) (pos 1024) (pos 4096)) (row modes.VerticalLr) (part (name 18 0) (rect (pos 5120) (pos 1024) (pos 1024) (pos 1024)) text none none) none)) none)))) (part (name 1 2) (rect (pos 0) (pos 5120) (pos 7680) (pos 1024)) (box modes.HorizontalTb directions.Ltr (pos 7680) (pos 1024) None) (part (name 1 2) (rect (pos 0) (pos 5120) (pos 7680) (pos 1024)) (row modes.HorizontalTb) (part (name 19 0) (rect (pos 0) (pos 5120) (pos 1024) (pos 1024)) text none none) none) none))) none) none)) (at 0 None None None ∷ at 1 (Some 0) (Some 0) None ∷ at 2 (Some 1) (Some 1) None ∷ at 3 (Some 1) (Some 1) (Some (insets Auto (Length (pos 2560)) (Length (pos 6400)) (Length (pos 64)))) ∷ at 4 (Some 3) (Some 3) None ∷ at 5 (Some 3) (Some 3) None ∷ at 6 (Some 5) (Some 3) None ∷ at 7 (Some 5) (Some 3) None ∷ at 8 (Some 7) (Some 7) None ∷ at 9 (Some 5) (Some 3) None ∷ at 10 (Some 3) (Some 3) None ∷ at 11 (Some 3) (Some 3) (Some (insets (Percent (pos 1000)) Auto (Length (pos 1280)) (Length (negsuc 2559)))) ∷ at 12 (Some 11) (Some 11) None ∷ at 13 (Some 11) (Some 11) (Some (insets (Length (pos 641)) Auto Auto (Length (pos 641)))) ∷ at 14 (Some 13) (Some 11) None ∷ at 15 (Some 11) (Some 11) None ∷ at 16 (Some 3) (Some 3) None ∷ at 17 (Some 3) (Some 3) None ∷ at 18 (Some 3) (Some 3) None ∷ at 19 (Some 1) (Some 1) None ∷ []) ≡ (page (pos 7680) (pos 7552) (part (name 0 0) (rect (pos 0) (pos 0) (pos 7680) (pos 6144)) (box modes.HorizontalTb directions.Ltr (pos 7680) (pos 6144) None) (part (name 1 0) (rect (pos 0) (pos 0) (pos 7680) (pos 6144)) (box modes.HorizontalTb directions.Ltr (pos 7680) (pos 6144) None) (part (name 1 1) (rect (pos 0) (pos 0) (pos 7680) (pos 1024)) (box modes.HorizontalTb directions.Ltr (pos 7680) (pos 1024) None) (part (name 1 1) (rect (pos 0) (pos 0) (pos 7680) (pos 1024)) (row modes.HorizontalTb) (part (name 2 0) (rect (pos 0) (pos 0) (pos 2048) (pos 1024)) text none none) none) (part (name 3 0) (rect (pos 1088) (negsuc 5375) (pos 5120) (pos 4096)) (box modes.VerticalLr directions.Ltr (pos 5120) (pos 4096) None) (part (name 7 0) (rect (pos 1088) (negsuc 5375) (pos 1024) (pos 4096)) (box modes.VerticalLr directions.Ltr (pos 4096) (pos 1024) None) (part (name 7 0) (rect (pos 1088) (negsuc 5375) (pos 1024) (pos 4096)) (row modes.VerticalLr) (part (name 8 0) (rect (pos 1088) (negsuc 5375) (pos 1024) (pos 1024)) text none none) none) (part (name 3 1) (rect (pos 2112) (negsuc 5375) (pos 1024) (pos 4096)) (box modes.VerticalLr directions.Ltr (pos 4096) (pos 1024) None) (part (name 3 1) (rect (pos 2112) (negsuc 5375) (pos 1024) (pos 4096)) (row modes.VerticalLr) (part (name 5 0) (rect (pos 2112) (negsuc 5375) (pos 1024) (pos 2048)) span (part (name 9 0) (rect (pos 2112) (negsuc 5375) (pos 1024) (pos 2048)) text none none) (part (name 10 0) (rect (pos 2112) (negsuc 3327) (pos 1024) (pos 1024)) text none none)) none) (part (name 11 0) (rect (pos 576) (negsuc 4966) (pos 1024) (pos 4096)) (box modes.VerticalLr directions.Ltr (pos 4096) (pos 1024) None) (part (name 11 0) (rect (pos 576) (negsuc 4966) (pos 1024) (pos 4096)) (row modes.VerticalLr) (part (name 12 0) (rect (pos 576) (negsuc 4966) (pos 1024) (pos 1024)) text none (part (name 13 0) (rect (pos 1217) (negsuc 3301) (pos 1024) (pos 1024)) span (part (name 14 0) (rect (pos 1217) (negsuc 3301) (pos 1024) (pos 1024)) text none none) (part (name 15 0) (rect (pos 576) (negsuc 2918) (pos 1024) (pos 1024)) text none none))) none) (part (name 3 2) (rect (pos 4160) (negsuc 5375) (pos 2048) (pos 4096)) (box modes.VerticalLr directions.Ltr (pos 4096) (pos 2048) None) (part (name 3 2) (rect (pos 4160) (negsuc 5375) (pos 1024) (pos 4096)) (row modes.VerticalLr) (part (name 16 0) (rect (pos 4160) (negsuc 5375) (pos 1024) (pos 4096)) text none none) (part (name 3 2) (rect (pos 5184) (negsuc 5375) (pos 1024) (pos 4096)) (row modes.VerticalLr) (part (name 18 0) (rect (pos 5184) (negsuc 5375) (pos 1024) (pos 1024)) text none none) none)) none)))) (part (name 1 2) (rect (pos 0) (pos 5120) (pos 7680) (pos 1024)) (box modes.HorizontalTb directions.Ltr (pos 7680) (pos 1024) None) (part (name 1 2) (rect (pos 0) (pos 5120) (pos 7680) (pos 1024)) (row modes.HorizontalTb) (part (name 19 0) (rect (pos 0) (pos 5120) (pos 1024) (pos 1024)) text none none) none) none))) none) none))
page-1 = refl

page-2 : shift (page (pos 6400) (pos 3200) (part (name 0 0) (rect (pos 0) (pos 0) (pos 6400) (pos 9600)) (box modes.HorizontalTb directions.Ltr (pos 6400) (pos 9600) None) (part (name 1 0) (rect (pos 512) (pos 512) (pos 5376) (pos 8576)) (box modes.HorizontalTb directions.Ltr (pos 5376) (pos 8576) None) (part (name 1 1) (rect (pos 512) (pos 512) (pos 5376) (pos 896)) (box modes.HorizontalTb directions.Ltr (pos 5376) (pos 896) None) (part (name 1 1) (rect (pos 512) (pos 512) (pos 5376) (pos 896)) (row modes.HorizontalTb) (part (name 2 0) (rect (pos 512) (pos 512) (pos 1024) (pos 896)) text none (part (name 2 0) (rect (pos 1536) (pos 512) (pos 1024) (pos 896)) text none none)) none) (part (name 3 0) (rect (pos 1536) (pos 1408) (pos 896) (pos 3840)) (box modes.VerticalRl directions.Ltr (pos 896) (pos 2560) None) (part (name 3 0) (rect (pos 1536) (pos 2688) (pos 896) (pos 2560)) (row modes.VerticalRl) (part (name 4 0) (rect (pos 1536) (pos 2688) (pos 896) (pos 1024)) text none (part (name 5 0) (rect (pos 1536) (pos 3712) (pos 896) (pos 1024)) span (part (name 6 0) (rect (pos 1536) (pos 3712) (pos 896) (pos 1024)) text none none) (part (name 7 0) (rect (pos 1536) (pos 4736) (pos 896) (pos 512)) text none none))) none) (part (name 1 2) (rect (pos 512) (pos 5248) (pos 5376) (pos 3840)) (box modes.HorizontalTb directions.Ltr (pos 5376) (pos 3840) None) (part (name 1 2) (rect (pos 512) (pos 5248) (pos 5376) (pos 3840)) (row modes.HorizontalTb) (part (name 8 0) (rect (pos 512) (pos 5248) (pos 896) (pos 3584)) (box modes.VerticalLr directions.Rtl (pos 896) (pos 1024) None) (part (name 10 0) (rect (pos 512) (pos 6272) (pos 0) (pos 0)) (box modes.HorizontalTb directions.Rtl (pos 0) (pos 0) None) none (part (name 8 1) (rect (pos 512) (pos 5248) (pos 896) (pos 1024)) (box modes.VerticalLr directions.Rtl (pos 1024) (pos 896) None) (part (name 8 1) (rect (pos 512) (pos 5248) (pos 896) (pos 1024)) (row modes.VerticalLr) (part (name 11 0) (rect (pos 512) (pos 5248) (pos 896) (pos 1024)) text none none) none) none)) (part (name 12 0) (rect (pos 1408) (pos 8192) (pos 2560) (pos 896)) text none none)) none) none))) none) none)) (at 0 None None (Some (insets (Percent (negsuc 4999)) Auto (Percent (negsuc 4999)) Auto)) ∷ at 1 (Some 0) (Some 0) None ∷ at 2 (Some 1) (Some 1) None ∷ at 3 (Some 1) (Some 1) None ∷ at 4 (Some 3) (Some 3) None ∷ at 5 (Some 3) (Some 3) (Some (insets Auto Auto Auto Auto)) ∷ at 6 (Some 5) (Some 3) None ∷ at 7 (Some 3) (Some 3) None ∷ at 8 (Some 1) (Some 1) None ∷ at 9 (Some 8) (Some 8) None ∷ at 10 (Some 8) (Some 8) None ∷ at 11 (Some 8) (Some 8) None ∷ at 12 (Some 1) (Some 1) None ∷ []) ≡ (page (pos 6400) (pos 3200) (part (name 0 0) (rect (pos 0) (negsuc 1599) (pos 6400) (pos 9600)) (box modes.HorizontalTb directions.Ltr (pos 6400) (pos 9600) None) (part (name 1 0) (rect (pos 512) (negsuc 1087) (pos 5376) (pos 8576)) (box modes.HorizontalTb directions.Ltr (pos 5376) (pos 8576) None) (part (name 1 1) (rect (pos 512) (negsuc 1087) (pos 5376) (pos 896)) (box modes.HorizontalTb directions.Ltr (pos 5376) (pos 896) None) (part (name 1 1) (rect (pos 512) (negsuc 1087) (pos 5376) (pos 896)) (row modes.HorizontalTb) (part (name 2 0) (rect (pos 512) (negsuc 1087) (pos 1024) (pos 896)) text none (part (name 2 0) (rect (pos 1536) (negsuc 1087) (pos 1024) (pos 896)) text none none)) none) (part (name 3 0) (rect (pos 1536) (negsuc 191) (pos 896) (pos 3840)) (box modes.VerticalRl directions.Ltr (pos 896) (pos 2560) None) (part (name 3 0) (rect (pos 1536) (pos 1088) (pos 896) (pos 2560)) (row modes.VerticalRl) (part (name 4 0) (rect (pos 1536) (pos 1088) (pos 896) (pos 1024)) text none (part (name 5 0) (rect (pos 1536) (pos 2112) (pos 896) (pos 1024)) span (part (name 6 0) (rect (pos 1536) (pos 2112) (pos 896) (pos 1024)) text none none) (part (name 7 0) (rect (pos 1536) (pos 3136) (pos 896) (pos 512)) text none none))) none) (part (name 1 2) (rect (pos 512) (pos 3648) (pos 5376) (pos 3840)) (box modes.HorizontalTb directions.Ltr (pos 5376) (pos 3840) None) (part (name 1 2) (rect (pos 512) (pos 3648) (pos 5376) (pos 3840)) (row modes.HorizontalTb) (part (name 8 0) (rect (pos 512) (pos 3648) (pos 896) (pos 3584)) (box modes.VerticalLr directions.Rtl (pos 896) (pos 1024) None) (part (name 10 0) (rect (pos 512) (pos 4672) (pos 0) (pos 0)) (box modes.HorizontalTb directions.Rtl (pos 0) (pos 0) None) none (part (name 8 1) (rect (pos 512) (pos 3648) (pos 896) (pos 1024)) (box modes.VerticalLr directions.Rtl (pos 1024) (pos 896) None) (part (name 8 1) (rect (pos 512) (pos 3648) (pos 896) (pos 1024)) (row modes.VerticalLr) (part (name 11 0) (rect (pos 512) (pos 3648) (pos 896) (pos 1024)) text none none) none) none)) (part (name 12 0) (rect (pos 1408) (pos 6592) (pos 2560) (pos 896)) text none none)) none) none))) none) none))
page-2 = refl

page-3 : shift (page (pos 51200) (pos 38400) (part (name 0 0) (rect (pos 0) (pos 0) (pos 2048) (pos 51200)) (box modes.SidewaysLr directions.Ltr (pos 51200) (pos 2048) None) (part (name 1 0) (rect (pos 0) (pos 512) (pos 2048) (pos 50176)) (box modes.SidewaysLr directions.Ltr (pos 50176) (pos 2048) None) (part (name 1 0) (rect (pos 0) (pos 512) (pos 2048) (pos 50176)) (row modes.SidewaysLr) (part (name 2 0) (rect (pos 1024) (pos 50176) (pos 1024) (pos 512)) text none (part (name 3 0) (rect (pos 1024) (pos 40448) (pos 1024) (pos 9728)) span (part (name 14 0) (rect (pos 1024) (pos 49664) (pos 1024) (pos 512)) text none (part (name 15 0) (rect (pos 0) (pos 40960) (pos 1792) (pos 8704)) (box modes.VerticalRl directions.Ltr (pos 8704) (pos 1792) None) (part (name 15 0) (rect (pos 0) (pos 40960) (pos 1792) (pos 8704)) (row modes.VerticalRl) (part (name 17 0) (rect (pos 448) (pos 40960) (pos 896) (pos 2560)) span (part (name 18 0) (rect (pos 448) (pos 40960) (pos 896) (pos 1024)) text none (part (name 18 0) (rect (pos 448) (pos 41984) (pos 896) (pos 512)) text none (part (name 18 0) (rect (pos 448) (pos 42496) (pos 896) (pos 1024)) text none none))) (part (name 19 0) (rect (pos 448) (pos 43520) (pos 896) (pos 1024)) text none (part (name 19 0) (rect (pos 448) (pos 44544) (pos 896) (pos 512)) text none (part (name 19 0) (rect (pos 448) (pos 45056) (pos 896) (pos 1024)) text none (part (name 19 0) (rect (pos 448) (pos 46080) (pos 896) (pos 512)) text none (part (name 19 0) (rect (pos 448) (pos 46592) (pos 896) (pos 1024)) text none (part (name 20 0) (rect (pos 0) (pos 47616) (pos 1792) (pos 2048)) span (part (name 21 0) (rect (pos 0) (pos 47616) (pos 1792) (pos 2048)) text none none) none))))))) none) (part (name 23 0) (rect (pos 1024) (pos 40448) (pos 1024) (pos 512)) text none none))) (part (name 24 0) (rect (pos 1024) (pos 39424) (pos 1024) (pos 1024)) text none none))) none) none) none)) (at 0 None None (Some (insets (Percent (pos 5000)) (Length (negsuc 511)) Auto Auto)) ∷ at 1 (Some 0) (Some 0) None ∷ at 2 (Some 1) (Some 1) None ∷ at 3 (Some 1) (Some 1) (Some (insets Auto (Length (pos 64)) Auto Auto)) ∷ at 14 (Some 3) (Some 1) None ∷ at 15 (Some 3) (Some 1) None ∷ at 16 (Some 15) (Some 15) None ∷ at 17 (Some 15) (Some 15) None ∷ at 18 (Some 17) (Some 15) None ∷ at 19 (Some 15) (Some 15) None ∷ at 20 (Some 15) (Some 15) None ∷ at 21 (Some 20) (Some 15) None ∷ at 22 (Some 15) (Some 15) None ∷ at 23 (Some 3) (Some 1) None ∷ at 24 (Some 1) (Some 1) None ∷ []) ≡ (page (pos 51200) (pos 38400) (part (name 0 0) (rect (pos 512) (pos 25600) (pos 2048) (pos 51200)) (box modes.SidewaysLr directions.Ltr (pos 51200) (pos 2048) None) (part (name 1 0) (rect (pos 512) (pos 26112) (pos 2048) (pos 50176)) (box modes.SidewaysLr directions.Ltr (pos 50176) (pos 2048) None) (part (name 1 0) (rect (pos 512) (pos 26112) (pos 2048) (pos 50176)) (row modes.SidewaysLr) (part (name 2 0) (rect (pos 1536) (pos 75776) (pos 1024) (pos 512)) text none (part (name 3 0) (rect (pos 1472) (pos 66048) (pos 1024) (pos 9728)) span (part (name 14 0) (rect (pos 1472) (pos 75264) (pos 1024) (pos 512)) text none (part (name 15 0) (rect (pos 448) (pos 66560) (pos 1792) (pos 8704)) (box modes.VerticalRl directions.Ltr (pos 8704) (pos 1792) None) (part (name 15 0) (rect (pos 448) (pos 66560) (pos 1792) (pos 8704)) (row modes.VerticalRl) (part (name 17 0) (rect (pos 896) (pos 66560) (pos 896) (pos 2560)) span (part (name 18 0) (rect (pos 896) (pos 66560) (pos 896) (pos 1024)) text none (part (name 18 0) (rect (pos 896) (pos 67584) (pos 896) (pos 512)) text none (part (name 18 0) (rect (pos 896) (pos 68096) (pos 896) (pos 1024)) text none none))) (part (name 19 0) (rect (pos 896) (pos 69120) (pos 896) (pos 1024)) text none (part (name 19 0) (rect (pos 896) (pos 70144) (pos 896) (pos 512)) text none (part (name 19 0) (rect (pos 896) (pos 70656) (pos 896) (pos 1024)) text none (part (name 19 0) (rect (pos 896) (pos 71680) (pos 896) (pos 512)) text none (part (name 19 0) (rect (pos 896) (pos 72192) (pos 896) (pos 1024)) text none (part (name 20 0) (rect (pos 448) (pos 73216) (pos 1792) (pos 2048)) span (part (name 21 0) (rect (pos 448) (pos 73216) (pos 1792) (pos 2048)) text none none) none))))))) none) (part (name 23 0) (rect (pos 1472) (pos 66048) (pos 1024) (pos 512)) text none none))) (part (name 24 0) (rect (pos 1536) (pos 65024) (pos 1024) (pos 1024)) text none none))) none) none) none))
page-3 = refl

page-4 : shift (page (pos 12480) (pos 7744) (part (name 0 0) (rect (negsuc 1215) (pos 0) (pos 8960) (pos 12480)) (box modes.SidewaysRl directions.Ltr (pos 12480) (pos 8960) None) (part (name 1 0) (rect (negsuc 191) (pos 512) (pos 7936) (pos 11456)) (box modes.SidewaysRl directions.Ltr (pos 11456) (pos 7936) None) (part (name 1 1) (rect (pos 6848) (pos 512) (pos 896) (pos 11456)) (box modes.SidewaysRl directions.Ltr (pos 11456) (pos 896) None) (part (name 1 1) (rect (pos 6848) (pos 512) (pos 896) (pos 11456)) (row modes.SidewaysRl) (part (name 2 0) (rect (pos 6848) (pos 512) (pos 896) (pos 1024)) text none none) none) (part (name 3 0) (rect (negsuc 191) (pos 512) (pos 6016) (pos 11456)) (box modes.SidewaysLr directions.Rtl (pos 11456) (pos 6016) None) (part (name 3 1) (rect (negsuc 191) (pos 512) (pos 3072) (pos 11456)) (box modes.SidewaysLr directions.Rtl (pos 11456) (pos 3072) None) (part (name 3 1) (rect (negsuc 191) (pos 512) (pos 3072) (pos 11456)) (row modes.SidewaysLr) (part (name 13 0) (rect (pos 1984) (pos 7680) (pos 896) (pos 3072)) text none (part (name 5 0) (rect (negsuc 191) (pos 2560) (pos 3072) (pos 5120)) (box modes.SidewaysLr directions.Rtl (pos 5120) (pos 3072) None) (part (name 5 1) (rect (negsuc 191) (pos 2560) (pos 1152) (pos 5120)) (box modes.SidewaysLr directions.Rtl (pos 5120) (pos 1152) None) (part (name 5 1) (rect (negsuc 191) (pos 2560) (pos 1152) (pos 5120)) (row modes.SidewaysLr) (part (name 9 0) (rect (pos 64) (pos 7168) (pos 896) (pos 512)) text none (part (name 9 0) (rect (pos 64) (pos 5632) (pos 896) (pos 1536)) text none (part (name 7 0) (rect (negsuc 191) (pos 4608) (pos 896) (pos 1024)) (box modes.VerticalRl directions.Rtl (pos 1024) (pos 896) None) (part (name 7 0) (rect (negsuc 191) (pos 4608) (pos 896) (pos 1024)) (row modes.VerticalRl) (part (name 8 0) (rect (negsuc 191) (pos 4608) (pos 896) (pos 1024)) text none none) none) (part (name 6 0) (rect (pos 64) (pos 4096) (pos 896) (pos 512)) text none (part (name 6 0) (rect (pos 64) (pos 3584) (pos 896) (pos 512)) text none (part (name 6 0) (rect (pos 64) (pos 2560) (pos 896) (pos 1024)) text none none)))))) none) (part (name 10 0) (rect (pos 1984) (pos 2560) (pos 0) (pos 5120)) (box modes.SidewaysLr directions.Rtl (pos 5120) (pos 0) None) none (part (name 5 2) (rect (pos 1984) (pos 2560) (pos 896) (pos 5120)) (box modes.SidewaysLr directions.Rtl (pos 5120) (pos 896) None) (part (name 5 2) (rect (pos 1984) (pos 2560) (pos 896) (pos 5120)) (row modes.SidewaysLr) (part (name 12 0) (rect (pos 1984) (pos 2560) (pos 896) (pos 1536)) text none none) none) none))) (part (name 4 0) (rect (pos 1984) (pos 2048) (pos 896) (pos 512)) text none (part (name 4 0) (rect (pos 1984) (pos 1536) (pos 896) (pos 512)) text none (part (name 4 0) (rect (pos 1984) (pos 512) (pos 896) (pos 1024)) text none none))))) none) (part (name 14 0) (rect (pos 3904) (pos 512) (pos 896) (pos 11456)) (box modes.SidewaysLr directions.Rtl (pos 11456) (pos 896) None) (part (name 14 0) (rect (pos 3904) (pos 512) (pos 896) (pos 11456)) (row modes.SidewaysLr) (part (name 16 0) (rect (pos 4544) (pos 3072) (pos 0) (pos 0)) (box modes.VerticalRl directions.Rtl (pos 0) (pos 0) None) none (part (name 15 0) (rect (pos 3904) (pos 512) (pos 896) (pos 2560)) text none none)) none) none)) none)) none) none)) (at 0 None None None ∷ at 1 (Some 0) (Some 0) None ∷ at 2 (Some 1) (Some 1) None ∷ at 3 (Some 1) (Some 1) (Some (insets (Length (pos 64)) (Length (pos 64)) (Length (pos 64)) (Length (pos 64)))) ∷ at 4 (Some 3) (Some 3) None ∷ at 5 (Some 3) (Some 3) None ∷ at 6 (Some 5) (Some 5) None ∷ at 7 (Some 5) (Some 5) (Some (insets (Length (pos 2560)) Auto (Length (pos 6400)) Auto)) ∷ at 8 (Some 7) (Some 7) None ∷ at 9 (Some 5) (Some 5) None ∷ at 10 (Some 5) (Some 5) (Some (insets (Percent (negsuc 3332)) (Length (negsuc 640)) Auto Auto)) ∷ at 11 (Some 10) (Some 10) None ∷ at 12 (Some 5) (Some 5) None ∷ at 13 (Some 3) (Some 3) None ∷ at 14 (Some 3) (Some 3) None ∷ at 15 (Some 14) (Some 14) None ∷ at 16 (Some 14) (Some 14) (Some (insets (Length (pos 128)) (Length (pos 192)) (Length (pos 320)) (Length (pos 192)))) ∷ at 17 (Some 16) (Some 16) None ∷ at 18 (Some 3) (Some 3) None ∷ at 19 (Some 1) (Some 1) None ∷ []) ≡ (page (pos 12480) (pos 7744) (part (name 0 0) (rect (negsuc 1215) (pos 0) (pos 8960) (pos 12480)) (box modes.SidewaysRl directions.Ltr (pos 12480) (pos 8960) None) (part (name 1 0) (rect (negsuc 191) (pos 512) (pos 7936) (pos 11456)) (box modes.SidewaysRl directions.Ltr (pos 11456) (pos 7936) None) (part (name 1 1) (rect (pos 6848) (pos 512) (pos 896) (pos 11456)) (box modes.SidewaysRl directions.Ltr (pos 11456) (pos 896) None) (part (name 1 1) (rect (pos 6848) (pos 512) (pos 896) (pos 11456)) (row modes.SidewaysRl) (part (name 2 0) (rect (pos 6848) (pos 512) (pos 896) (pos 1024)) text none none) none) (part (name 3 0) (rect (negsuc 255) (pos 576) (pos 6016) (pos 11456)) (box modes.SidewaysLr directions.Rtl (pos 11456) (pos 6016) None) (part (name 3 1) (rect (negsuc 255) (pos 576) (pos 3072) (pos 11456)) (box modes.SidewaysLr directions.Rtl (pos 11456) (pos 3072) None) (part (name 3 1) (rect (negsuc 255) (pos 576) (pos 3072) (pos 11456)) (row modes.SidewaysLr) (part (name 13 0) (rect (pos 1920) (pos 7744) (pos 896) (pos 3072)) text none (part (name 5 0) (rect (negsuc 255) (pos 2624) (pos 3072) (pos 5120)) (box modes.SidewaysLr directions.Rtl (pos 5120) (pos 3072) None) (part (name 5 1) (rect (negsuc 255) (pos 2624) (pos 1152) (pos 5120)) (box modes.SidewaysLr directions.Rtl (pos 5120) (pos 1152) None) (part (name 5 1) (rect (negsuc 255) (pos 2624) (pos 1152) (pos 5120)) (row modes.SidewaysLr) (part (name 9 0) (rect (pos 0) (pos 7232) (pos 896) (pos 512)) text none (part (name 9 0) (rect (pos 0) (pos 5696) (pos 896) (pos 1536)) text none (part (name 7 0) (rect (negsuc 255) (pos 7232) (pos 896) (pos 1024)) (box modes.VerticalRl directions.Rtl (pos 1024) (pos 896) None) (part (name 7 0) (rect (negsuc 255) (pos 7232) (pos 896) (pos 1024)) (row modes.VerticalRl) (part (name 8 0) (rect (negsuc 255) (pos 7232) (pos 896) (pos 1024)) text none none) none) (part (name 6 0) (rect (pos 0) (pos 4160) (pos 896) (pos 512)) text none (part (name 6 0) (rect (pos 0) (pos 3648) (pos 896) (pos 512)) text none (part (name 6 0) (rect (pos 0) (pos 2624) (pos 896) (pos 1024)) text none none)))))) none) (part (name 10 0) (rect (pos 2561) (pos 918) (pos 0) (pos 5120)) (box modes.SidewaysLr directions.Rtl (pos 5120) (pos 0) None) none (part (name 5 2) (rect (pos 1920) (pos 2624) (pos 896) (pos 5120)) (box modes.SidewaysLr directions.Rtl (pos 5120) (pos 896) None) (part (name 5 2) (rect (pos 1920) (pos 2624) (pos 896) (pos 5120)) (row modes.SidewaysLr) (part (name 12 0) (rect (pos 1920) (pos 2624) (pos 896) (pos 1536)) text none none) none) none))) (part (name 4 0) (rect (pos 1920) (pos 2112) (pos 896) (pos 512)) text none (part (name 4 0) (rect (pos 1920) (pos 1600) (pos 896) (pos 512)) text none (part (name 4 0) (rect (pos 1920) (pos 576) (pos 896) (pos 1024)) text none none))))) none) (part (name 14 0) (rect (pos 3840) (pos 576) (pos 896) (pos 11456)) (box modes.SidewaysLr directions.Rtl (pos 11456) (pos 896) None) (part (name 14 0) (rect (pos 3840) (pos 576) (pos 896) (pos 11456)) (row modes.SidewaysLr) (part (name 16 0) (rect (pos 4672) (pos 3264) (pos 0) (pos 0)) (box modes.VerticalRl directions.Rtl (pos 0) (pos 0) None) none (part (name 15 0) (rect (pos 3840) (pos 576) (pos 896) (pos 2560)) text none none)) none) none)) none)) none) none))
page-4 = refl

page-5 : shift (page (pos 12800) (pos 6400) (part (name 0 0) (rect (pos 1792) (pos 0) (pos 4608) (pos 12800)) (box modes.SidewaysRl directions.Rtl (pos 12800) (pos 4608) None) (part (name 1 0) (rect (pos 1792) (pos 512) (pos 4608) (pos 11776)) (box modes.SidewaysRl directions.Rtl (pos 11776) (pos 4608) None) (part (name 1 1) (rect (pos 5376) (pos 512) (pos 1024) (pos 11776)) (box modes.SidewaysRl directions.Rtl (pos 11776) (pos 1024) None) (part (name 1 1) (rect (pos 5376) (pos 512) (pos 1024) (pos 11776)) (row modes.SidewaysRl) (part (name 3 0) (rect (pos 5376) (pos 9728) (pos 1024) (pos 512)) span (part (name 4 0) (rect (pos 5376) (pos 9728) (pos 1024) (pos 512)) text none none) (part (name 2 0) (rect (pos 5376) (pos 10240) (pos 1024) (pos 512)) text none (part (name 2 0) (rect (pos 5376) (pos 10752) (pos 1024) (pos 512)) text none (part (name 2 0) (rect (pos 5376) (pos 11264) (pos 1024) (pos 1024)) text none none)))) none) (part (name 6 0) (rect (pos 5376) (pos 512) (pos 0) (pos 11776)) (box modes.VerticalLr directions.Ltr (pos 11776) (pos 0) None) none (part (name 1 2) (rect (pos 3840) (pos 512) (pos 1536) (pos 11776)) (box modes.SidewaysRl directions.Rtl (pos 11776) (pos 1536) None) (part (name 1 2) (rect (pos 3840) (pos 512) (pos 1536) (pos 11776)) (row modes.SidewaysRl) (part (name 3 0) (rect (pos 4096) (pos 7680) (pos 1024) (pos 4608)) span (part (name 5 0) (rect (pos 4096) (pos 7680) (pos 1024) (pos 2048)) span (part (name 9 0) (rect (pos 4096) (pos 7680) (pos 1024) (pos 1536)) span (part (name 10 0) (rect (pos 4096) (pos 7680) (pos 1024) (pos 1536)) text none none) (part (name 11 0) (rect (pos 4096) (pos 9216) (pos 1024) (pos 512)) text none none)) (part (name 12 0) (rect (pos 4096) (pos 9728) (pos 1024) (pos 512)) text none (part (name 5 0) (rect (pos 4096) (pos 10240) (pos 1024) (pos 2048)) span (part (name 8 0) (rect (pos 4096) (pos 10240) (pos 1024) (pos 512)) text none (part (name 8 0) (rect (pos 4096) (pos 10752) (pos 1024) (pos 512)) text none (part (name 8 0) (rect (pos 4096) (pos 11264) (pos 1024) (pos 1024)) text none none))) none))) none) none) (part (name 13 0) (rect (pos 2816) (pos 512) (pos 1024) (pos 11776)) (box modes.SidewaysRl directions.Rtl (pos 11776) (pos 1024) None) (part (name 13 0) (rect (pos 2816) (pos 512) (pos 1024) (pos 11776)) (row modes.SidewaysRl) (part (name 14 0) (rect (pos 2816) (pos 10240) (pos 1024) (pos 512)) text none (part (name 16 0) (rect (pos 2816) (pos 10752) (pos 1024) (pos 1536)) text none none)) none) (part (name 1 3) (rect (pos 1792) (pos 512) (pos 1024) (pos 11776)) (box modes.SidewaysRl directions.Rtl (pos 11776) (pos 1024) None) (part (name 1 3) (rect (pos 1792) (pos 512) (pos 1024) (pos 11776)) (row modes.SidewaysRl) (part (name 18 0) (rect (pos 1792) (pos 9728) (pos 1024) (pos 2560)) text none none) none) none))))) none) none)) (at 0 None None None ∷ at 1 (Some 0) (Some 0) None ∷ at 2 (Some 1) (Some 1) None ∷ at 3 (Some 1) (Some 1) (Some (insets (Percent (negsuc 999)) (Length (pos 2560)) Auto (Length (negsuc 640)))) ∷ at 4 (Some 3) (Some 1) None ∷ at 5 (Some 3) (Some 1) None ∷ at 6 (Some 5) (Some 1) None ∷ at 7 (Some 6) (Some 6) None ∷ at 8 (Some 5) (Some 1) None ∷ at 9 (Some 5) (Some 1) None ∷ at 10 (Some 9) (Some 1) None ∷ at 11 (Some 5) (Some 1) None ∷ at 12 (Some 3) (Some 1) None ∷ at 13 (Some 3) (Some 1) None ∷ at 14 (Some 13) (Some 13) None ∷ at 15 (Some 13) (Some 13) None ∷ at 16 (Some 13) (Some 13) None ∷ at 17 (Some 3) (Some 1) None ∷ at 18 (Some 1) (Some 1) None ∷ []) ≡ (page (pos 12800) (pos 6400) (part (name 0 0) (rect (pos 1792) (pos 0) (pos 4608) (pos 12800)) (box modes.SidewaysRl directions.Rtl (pos 12800) (pos 4608) None) (part (name 1 0) (rect (pos 1792) (pos 512) (pos 4608) (pos 11776)) (box modes.SidewaysRl directions.Rtl (pos 11776) (pos 4608) None) (part (name 1 1) (rect (pos 5376) (pos 512) (pos 1024) (pos 11776)) (box modes.SidewaysRl directions.Rtl (pos 11776) (pos 1024) None) (part (name 1 1) (rect (pos 5376) (pos 512) (pos 1024) (pos 11776)) (row modes.SidewaysRl) (part (name 3 0) (rect (pos 2816) (pos 8551) (pos 1024) (pos 512)) span (part (name 4 0) (rect (pos 2816) (pos 8551) (pos 1024) (pos 512)) text none none) (part (name 2 0) (rect (pos 5376) (pos 10240) (pos 1024) (pos 512)) text none (part (name 2 0) (rect (pos 5376) (pos 10752) (pos 1024) (pos 512)) text none (part (name 2 0) (rect (pos 5376) (pos 11264) (pos 1024) (pos 1024)) text none none)))) none) (part (name 6 0) (rect (pos 2816) (negsuc 664) (pos 0) (pos 11776)) (box modes.VerticalLr directions.Ltr (pos 11776) (pos 0) None) none (part (name 1 2) (rect (pos 3840) (pos 512) (pos 1536) (pos 11776)) (box modes.SidewaysRl directions.Rtl (pos 11776) (pos 1536) None) (part (name 1 2) (rect (pos 3840) (pos 512) (pos 1536) (pos 11776)) (row modes.SidewaysRl) (part (name 3 0) (rect (pos 1536) (pos 6503) (pos 1024) (pos 4608)) span (part (name 5 0) (rect (pos 1536) (pos 6503) (pos 1024) (pos 2048)) span (part (name 9 0) (rect (pos 1536) (pos 6503) (pos 1024) (pos 1536)) span (part (name 10 0) (rect (pos 1536) (pos 6503) (pos 1024) (pos 1536)) text none none) (part (name 11 0) (rect (pos 1536) (pos 8039) (pos 1024) (pos 512)) text none none)) (part (name 12 0) (rect (pos 1536) (pos 8551) (pos 1024) (pos 512)) text none (part (name 5 0) (rect (pos 1536) (pos 9063) (pos 1024) (pos 2048)) span (part (name 8 0) (rect (pos 1536) (pos 9063) (pos 1024) (pos 512)) text none (part (name 8 0) (rect (pos 1536) (pos 9575) (pos 1024) (pos 512)) text none (part (name 8 0) (rect (pos 1536) (pos 10087) (pos 1024) (pos 1024)) text none none))) none))) none) none) (part (name 13 0) (rect (pos 256) (negsuc 664) (pos 1024) (pos 11776)) (box modes.SidewaysRl directions.Rtl (pos 11776) (pos 1024) None) (part (name 13 0) (rect (pos 256) (negsuc 664) (pos 1024) (pos 11776)) (row modes.SidewaysRl) (part (name 14 0) (rect (pos 256) (pos 9063) (pos 1024) (pos 512)) text none (part (name 16 0) (rect (pos 256) (pos 9575) (pos 1024) (pos 1536)) text none none)) none) (part (name 1 3) (rect (pos 1792) (pos 512) (pos 1024) (pos 11776)) (box modes.SidewaysRl directions.Rtl (pos 11776) (pos 1024) None) (part (name 1 3) (rect (pos 1792) (pos 512) (pos 1024) (pos 11776)) (row modes.SidewaysRl) (part (name 18 0) (rect (pos 1792) (pos 9728) (pos 1024) (pos 2560)) text none none) none) none))))) none) none))
page-5 = refl

page-6 : shift (page (pos 12800) (pos 6400) (part (name 0 0) (rect (pos 0) (pos 0) (pos 6656) (pos 12800)) (box modes.VerticalLr directions.Ltr (pos 12800) (pos 6656) None) (part (name 1 0) (rect (pos 512) (pos 512) (pos 5632) (pos 11776)) (box modes.VerticalLr directions.Ltr (pos 11776) (pos 5632) None) (part (name 1 1) (rect (pos 512) (pos 512) (pos 896) (pos 11776)) (box modes.VerticalLr directions.Ltr (pos 11776) (pos 896) None) (part (name 1 1) (rect (pos 512) (pos 512) (pos 896) (pos 11776)) (row modes.VerticalLr) (part (name 2 0) (rect (pos 512) (pos 512) (pos 896) (pos 1024)) text none (part (name 3 0) (rect (pos 512) (pos 1536) (pos 896) (pos 1024)) span (part (name 4 0) (rect (pos 512) (pos 1536) (pos 896) (pos 1024)) text none none) none)) none) (part (name 5 0) (rect (pos 1536) (pos 320) (pos 896) (pos 11497)) (box modes.VerticalLr directions.Ltr (pos 11497) (pos 896) None) (part (name 5 0) (rect (pos 1536) (pos 320) (pos 896) (pos 11497)) (row modes.VerticalLr) (part (name 6 0) (rect (pos 1536) (pos 320) (pos 896) (pos 512)) text none none) none) (part (name 1 2) (rect (pos 2560) (pos 512) (pos 896) (pos 11776)) (box modes.VerticalLr directions.Ltr (pos 11776) (pos 896) None) (part (name 1 2) (rect (pos 2560) (pos 512) (pos 896) (pos 11776)) (row modes.VerticalLr) (part (name 3 0) (rect (pos 2560) (pos 512) (pos 896) (pos 2560)) span (part (name 7 0) (rect (pos 2560) (pos 512) (pos 896) (pos 2560)) text none none) none) none) (part (name 8 0) (rect (pos 3456) (pos 512) (pos 896) (pos 11776)) (box modes.VerticalLr directions.Ltr (pos 11776) (pos 896) None) (part (name 8 0) (rect (pos 3456) (pos 512) (pos 896) (pos 11776)) (row modes.VerticalLr) (part (name 9 0) (rect (pos 3456) (pos 512) (pos 896) (pos 2560)) text none none) none) (part (name 1 3) (rect (pos 4352) (pos 512) (pos 1792) (pos 11776)) (box modes.VerticalLr directions.Ltr (pos 11776) (pos 1792) None) (part (name 1 3) (rect (pos 4352) (pos 512) (pos 896) (pos 11776)) (row modes.VerticalLr) (part (name 3 0) (rect (pos 4352) (pos 512) (pos 896) (pos 1536)) span (part (name 10 0) (rect (pos 4352) (pos 512) (pos 896) (pos 1536)) text none none) (part (name 11 0) (rect (pos 4352) (pos 2048) (pos 896) (pos 512)) text none (part (name 11 0) (rect (pos 4352) (pos 2560) (pos 896) (pos 512)) text none (part (name 11 0) (rect (pos 4352) (pos 3072) (pos 896) (pos 512)) text none (part (name 11 0) (rect (pos 4352) (pos 3584) (pos 896) (pos 512)) text none (part (name 12 0) (rect (pos 4352) (pos 4096) (pos 896) (pos 6144)) span (part (name 13 0) (rect (pos 4352) (pos 4096) (pos 896) (pos 2560)) text none (part (name 14 0) (rect (pos 4352) (pos 6656) (pos 896) (pos 1024)) span (part (name 15 0) (rect (pos 4352) (pos 6656) (pos 896) (pos 1024)) text none none) (part (name 16 0) (rect (pos 4352) (pos 7680) (pos 896) (pos 2560)) text none none))) none)))))) (part (name 1 3) (rect (pos 5248) (pos 512) (pos 896) (pos 11776)) (row modes.VerticalLr) (part (name 19 0) (rect (pos 5248) (pos 512) (pos 896) (pos 1536)) text none none) none)) none))))) none) none)) (at 0 None None (Some (insets Auto (Percent (pos 5000)) Auto (Length (pos 1024)))) ∷ at 1 (Some 0) (Some 0) None ∷ at 2 (Some 1) (Some 1) None ∷ at 3 (Some 1) (Some 1) None ∷ at 4 (Some 3) (Some 1) None ∷ at 5 (Some 3) (Some 1) None ∷ at 6 (Some 5) (Some 5) None ∷ at 7 (Some 3) (Some 1) None ∷ at 8 (Some 3) (Some 1) (Some (insets (Percent (pos 5000)) (Length (pos 1024)) Auto (Length (negsuc 1279)))) ∷ at 9 (Some 8) (Some 8) None ∷ at 10 (Some 3) (Some 1) None ∷ at 11 (Some 1) (Some 1) None ∷ at 12 (Some 1) (Some 1) None ∷ at 13 (Some 12) (Some 1) None ∷ at 14 (Some 12) (Some 1) None ∷ at 15 (Some 14) (Some 1) None ∷ at 16 (Some 12) (Some 1) None ∷ at 17 (Some 12) (Some 1) (Some (insets Auto (Percent (pos 500)) (Length (negsuc 63)) (Percent (pos 500)))) ∷ at 18 (Some 12) (Some 1) None ∷ at 19 (Some 1) (Some 1) None ∷ []) ≡ (page (pos 12800) (pos 6400) (part (name 0 0) (rect (pos 1024) (pos 0) (pos 6656) (pos 12800)) (box modes.VerticalLr directions.Ltr (pos 12800) (pos 6656) None) (part (name 1 0) (rect (pos 1536) (pos 512) (pos 5632) (pos 11776)) (box modes.VerticalLr directions.Ltr (pos 11776) (pos 5632) None) (part (name 1 1) (rect (pos 1536) (pos 512) (pos 896) (pos 11776)) (box modes.VerticalLr directions.Ltr (pos 11776) (pos 896) None) (part (name 1 1) (rect (pos 1536) (pos 512) (pos 896) (pos 11776)) (row modes.VerticalLr) (part (name 2 0) (rect (pos 1536) (pos 512) (pos 896) (pos 1024)) text none (part (name 3 0) (rect (pos 1536) (pos 1536) (pos 896) (pos 1024)) span (part (name 4 0) (rect (pos 1536) (pos 1536) (pos 896) (pos 1024)) text none none) none)) none) (part (name 5 0) (rect (pos 2560) (pos 320) (pos 896) (pos 11497)) (box modes.VerticalLr directions.Ltr (pos 11497) (pos 896) None) (part (name 5 0) (rect (pos 2560) (pos 320) (pos 896) (pos 11497)) (row modes.VerticalLr) (part (name 6 0) (rect (pos 2560) (pos 320) (pos 896) (pos 512)) text none none) none) (part (name 1 2) (rect (pos 3584) (pos 512) (pos 896) (pos 11776)) (box modes.VerticalLr directions.Ltr (pos 11776) (pos 896) None) (part (name 1 2) (rect (pos 3584) (pos 512) (pos 896) (pos 11776)) (row modes.VerticalLr) (part (name 3 0) (rect (pos 3584) (pos 512) (pos 896) (pos 2560)) span (part (name 7 0) (rect (pos 3584) (pos 512) (pos 896) (pos 2560)) text none none) none) none) (part (name 8 0) (rect (pos 3200) (pos 6400) (pos 896) (pos 11776)) (box modes.VerticalLr directions.Ltr (pos 11776) (pos 896) None) (part (name 8 0) (rect (pos 3200) (pos 6400) (pos 896) (pos 11776)) (row modes.VerticalLr) (part (name 9 0) (rect (pos 3200) (pos 6400) (pos 896) (pos 2560)) text none none) none) (part (name 1 3) (rect (pos 5376) (pos 512) (pos 1792) (pos 11776)) (box modes.VerticalLr directions.Ltr (pos 11776) (pos 1792) None) (part (name 1 3) (rect (pos 5376) (pos 512) (pos 896) (pos 11776)) (row modes.VerticalLr) (part (name 3 0) (rect (pos 5376) (pos 512) (pos 896) (pos 1536)) span (part (name 10 0) (rect (pos 5376) (pos 512) (pos 896) (pos 1536)) text none none) (part (name 11 0) (rect (pos 5376) (pos 2048) (pos 896) (pos 512)) text none (part (name 11 0) (rect (pos 5376) (pos 2560) (pos 896) (pos 512)) text none (part (name 11 0) (rect (pos 5376) (pos 3072) (pos 896) (pos 512)) text none (part (name 11 0) (rect (pos 5376) (pos 3584) (pos 896) (pos 512)) text none (part (name 12 0) (rect (pos 5376) (pos 4096) (pos 896) (pos 6144)) span (part (name 13 0) (rect (pos 5376) (pos 4096) (pos 896) (pos 2560)) text none (part (name 14 0) (rect (pos 5376) (pos 6656) (pos 896) (pos 1024)) span (part (name 15 0) (rect (pos 5376) (pos 6656) (pos 896) (pos 1024)) text none none) (part (name 16 0) (rect (pos 5376) (pos 7680) (pos 896) (pos 2560)) text none none))) none)))))) (part (name 1 3) (rect (pos 6272) (pos 512) (pos 896) (pos 11776)) (row modes.VerticalLr) (part (name 19 0) (rect (pos 6272) (pos 512) (pos 896) (pos 1536)) text none none) none)) none))))) none) none))
page-6 = refl

page-7 : shift (page (pos 6400) (pos 3200) (part (name 0 0) (rect (pos 0) (pos 0) (pos 3072) (pos 6400)) (box modes.VerticalLr directions.Rtl (pos 6400) (pos 3072) None) (part (name 1 0) (rect (pos 0) (pos 512) (pos 3072) (pos 5376)) (box modes.VerticalLr directions.Rtl (pos 5376) (pos 3072) None) (part (name 1 1) (rect (pos 0) (pos 512) (pos 1024) (pos 5376)) (box modes.VerticalLr directions.Rtl (pos 5376) (pos 1024) None) (part (name 1 1) (rect (pos 0) (pos 512) (pos 1024) (pos 5376)) (row modes.VerticalLr) (part (name 2 0) (rect (pos 0) (pos 5376) (pos 1024) (pos 512)) text none none) none) (part (name 3 0) (rect (pos 1024) (pos 512) (pos 1024) (pos 5376)) (box modes.VerticalLr directions.Rtl (pos 5376) (pos 1024) None) (part (name 3 0) (rect (pos 1024) (pos 512) (pos 1024) (pos 5376)) (row modes.VerticalLr) (part (name 4 0) (rect (pos 1024) (pos 4864) (pos 1024) (pos 1024)) text none none) none) (part (name 1 2) (rect (pos 2048) (pos 512) (pos 1024) (pos 5376)) (box modes.VerticalLr directions.Rtl (pos 5376) (pos 1024) None) (part (name 1 2) (rect (pos 2048) (pos 512) (pos 1024) (pos 5376)) (row modes.VerticalLr) (part (name 5 0) (rect (pos 2048) (pos 3328) (pos 1024) (pos 2560)) text none none) none) none))) none) none)) (at 0 None None (Some (insets Auto Auto (Percent (pos 1000)) Auto)) ∷ at 1 (Some 0) (Some 0) None ∷ at 2 (Some 1) (Some 1) None ∷ at 3 (Some 1) (Some 1) None ∷ at 4 (Some 3) (Some 3) None ∷ at 5 (Some 1) (Some 1) None ∷ []) ≡ (page (pos 6400) (pos 3200) (part (name 0 0) (rect (pos 0) (negsuc 639) (pos 3072) (pos 6400)) (box modes.VerticalLr directions.Rtl (pos 6400) (pos 3072) None) (part (name 1 0) (rect (pos 0) (negsuc 127) (pos 3072) (pos 5376)) (box modes.VerticalLr directions.Rtl (pos 5376) (pos 3072) None) (part (name 1 1) (rect (pos 0) (negsuc 127) (pos 1024) (pos 5376)) (box modes.VerticalLr directions.Rtl (pos 5376) (pos 1024) None) (part (name 1 1) (rect (pos 0) (negsuc 127) (pos 1024) (pos 5376)) (row modes.VerticalLr) (part (name 2 0) (rect (pos 0) (pos 4736) (pos 1024) (pos 512)) text none none) none) (part (name 3 0) (rect (pos 1024) (negsuc 127) (pos 1024) (pos 5376)) (box modes.VerticalLr directions.Rtl (pos 5376) (pos 1024) None) (part (name 3 0) (rect (pos 1024) (negsuc 127) (pos 1024) (pos 5376)) (row modes.VerticalLr) (part (name 4 0) (rect (pos 1024) (pos 4224) (pos 1024) (pos 1024)) text none none) none) (part (name 1 2) (rect (pos 2048) (negsuc 127) (pos 1024) (pos 5376)) (box modes.VerticalLr directions.Rtl (pos 5376) (pos 1024) None) (part (name 1 2) (rect (pos 2048) (negsuc 127) (pos 1024) (pos 5376)) (row modes.VerticalLr) (part (name 5 0) (rect (pos 2048) (pos 2688) (pos 1024) (pos 2560)) text none none) none) none))) none) none))
page-7 = refl

page-8 : shift (page (pos 51200) (pos 38400) (part (name 0 0) (rect (pos 17024) (pos 0) (pos 21376) (pos 51200)) (box modes.VerticalRl directions.Ltr (pos 51200) (pos 21376) None) (part (name 1 0) (rect (pos 17024) (pos 0) (pos 21376) (pos 51200)) (box modes.VerticalRl directions.Ltr (pos 51200) (pos 21376) None) (part (name 1 1) (rect (pos 37504) (pos 0) (pos 896) (pos 51200)) (box modes.VerticalRl directions.Ltr (pos 51200) (pos 896) None) (part (name 1 1) (rect (pos 37504) (pos 0) (pos 896) (pos 51200)) (row modes.VerticalRl) (part (name 2 0) (rect (pos 37504) (pos 0) (pos 896) (pos 1024)) text none none) none) (part (name 3 0) (rect (pos 35712) (pos 0) (pos 1792) (pos 51200)) (box modes.VerticalRl directions.Rtl (pos 51200) (pos 1792) None) (part (name 3 1) (rect (pos 36608) (pos 0) (pos 896) (pos 51200)) (box modes.VerticalRl directions.Rtl (pos 51200) (pos 896) None) (part (name 3 1) (rect (pos 36608) (pos 0) (pos 896) (pos 51200)) (row modes.VerticalRl) (part (name 4 0) (rect (pos 36608) (pos 50176) (pos 896) (pos 1024)) span (part (name 5 0) (rect (pos 36608) (pos 50176) (pos 896) (pos 1024)) text none none) none) none) (part (name 7 0) (rect (pos 36736) (pos 48256) (pos 512) (pos 896)) (box modes.HorizontalTb directions.Rtl (pos 896) (pos 512) None) (part (name 7 0) (rect (pos 36736) (pos 48256) (pos 512) (pos 896)) (row modes.HorizontalTb) (part (name 8 0) (rect (pos 36736) (pos 48256) (pos 512) (pos 896)) text none none) none) (part (name 3 2) (rect (pos 35712) (pos 0) (pos 896) (pos 51200)) (box modes.VerticalRl directions.Rtl (pos 51200) (pos 896) None) (part (name 3 2) (rect (pos 35712) (pos 0) (pos 896) (pos 51200)) (row modes.VerticalRl) (part (name 10 0) (rect (pos 35712) (pos 47616) (pos 896) (pos 1024)) span (part (name 11 0) (rect (pos 35712) (pos 47616) (pos 896) (pos 1024)) text none none) (part (name 9 0) (rect (pos 35712) (pos 48640) (pos 896) (pos 1024)) text none (part (name 9 0) (rect (pos 35712) (pos 49664) (pos 896) (pos 512)) text none (part (name 9 0) (rect (pos 35712) (pos 50176) (pos 896) (pos 1024)) text none none)))) none) none))) (part (name 1 2) (rect (pos 17024) (pos 0) (pos 18688) (pos 51200)) (box modes.VerticalRl directions.Ltr (pos 51200) (pos 18688) None) (part (name 1 2) (rect (pos 17024) (pos 0) (pos 18688) (pos 51200)) (row modes.VerticalRl) (part (name 12 0) (rect (pos 25920) (pos 0) (pos 896) (pos 1024)) text none (part (name 13 0) (rect (pos 17024) (pos 1024) (pos 18688) (pos 1024)) (box modes.HorizontalTb directions.Ltr (pos 1024) (pos 18688) None) (part (name 13 0) (rect (pos 17024) (pos 1024) (pos 18688) (pos 1024)) (row modes.HorizontalTb) (part (name 14 0) (rect (pos 17024) (pos 1024) (pos 2048) (pos 1024)) text none (part (name 14 0) (rect (pos 19072) (pos 1024) (pos 2048) (pos 1024)) text none (part (name 15 0) (rect (pos 21120) (pos 1024) (pos 1024) (pos 1024)) span (part (name 16 0) (rect (pos 21120) (pos 1024) (pos 1024) (pos 1024)) text none none) (part (name 17 0) (rect (pos 28544) (pos 1024) (pos 1024) (pos 1024)) text none (part (name 17 0) (rect (pos 29568) (pos 1024) (pos 1024) (pos 1024)) text none (part (name 17 0) (rect (pos 30592) (pos 1024) (pos 1024) (pos 1024)) text none (part (name 17 0) (rect (pos 31616) (pos 1024) (pos 1024) (pos 1024)) text none (part (name 18 0) (rect (pos 32640) (pos 1920) (pos 0) (pos 0)) (box modes.VerticalLr directions.Rtl (pos 0) (pos 0) None) none (part (name 20 0) (rect (pos 32640) (pos 1024) (pos 3072) (pos 1024)) text none none))))))))) none) none)) none) none))) none) none)) (at 0 None None None ∷ at 1 (Some 0) (Some 0) None ∷ at 2 (Some 1) (Some 1) None ∷ at 3 (Some 1) (Some 1) None ∷ at 4 (Some 3) (Some 3) None ∷ at 5 (Some 4) (Some 3) None ∷ at 6 (Some 3) (Some 3) None ∷ at 7 (Some 3) (Some 3) None ∷ at 8 (Some 7) (Some 7) None ∷ at 9 (Some 3) (Some 3) None ∷ at 10 (Some 3) (Some 3) (Some (insets Auto (Percent (pos 500)) (Length (negsuc 63)) (Percent (pos 500)))) ∷ at 11 (Some 10) (Some 3) None ∷ at 12 (Some 1) (Some 1) None ∷ at 13 (Some 1) (Some 1) None ∷ at 14 (Some 13) (Some 13) None ∷ at 15 (Some 13) (Some 13) None ∷ at 16 (Some 15) (Some 13) None ∷ at 17 (Some 13) (Some 13) None ∷ at 18 (Some 13) (Some 13) (Some (insets (Length (pos 1280)) (Length (negsuc 1279)) (Length (negsuc 63)) (Length (pos 64)))) ∷ at 19 (Some 18) (Some 18) None ∷ at 20 (Some 13) (Some 13) None ∷ at 21 (Some 1) (Some 1) None ∷ []) ≡ (page (pos 51200) (pos 38400) (part (name 0 0) (rect (pos 17024) (pos 0) (pos 21376) (pos 51200)) (box modes.VerticalRl directions.Ltr (pos 51200) (pos 21376) None) (part (name 1 0) (rect (pos 17024) (pos 0) (pos 21376) (pos 51200)) (box modes.VerticalRl directions.Ltr (pos 51200) (pos 21376) None) (part (name 1 1) (rect (pos 37504) (pos 0) (pos 896) (pos 51200)) (box modes.VerticalRl directions.Ltr (pos 51200) (pos 896) None) (part (name 1 1) (rect (pos 37504) (pos 0) (pos 896) (pos 51200)) (row modes.VerticalRl) (part (name 2 0) (rect (pos 37504) (pos 0) (pos 896) (pos 1024)) text none none) none) (part (name 3 0) (rect (pos 35712) (pos 0) (pos 1792) (pos 51200)) (box modes.VerticalRl directions.Rtl (pos 51200) (pos 1792) None) (part (name 3 1) (rect (pos 36608) (pos 0) (pos 896) (pos 51200)) (box modes.VerticalRl directions.Rtl (pos 51200) (pos 896) None) (part (name 3 1) (rect (pos 36608) (pos 0) (pos 896) (pos 51200)) (row modes.VerticalRl) (part (name 4 0) (rect (pos 36608) (pos 50176) (pos 896) (pos 1024)) span (part (name 5 0) (rect (pos 36608) (pos 50176) (pos 896) (pos 1024)) text none none) none) none) (part (name 7 0) (rect (pos 36736) (pos 48256) (pos 512) (pos 896)) (box modes.HorizontalTb directions.Rtl (pos 896) (pos 512) None) (part (name 7 0) (rect (pos 36736) (pos 48256) (pos 512) (pos 896)) (row modes.HorizontalTb) (part (name 8 0) (rect (pos 36736) (pos 48256) (pos 512) (pos 896)) text none none) none) (part (name 3 2) (rect (pos 35712) (pos 0) (pos 896) (pos 51200)) (box modes.VerticalRl directions.Rtl (pos 51200) (pos 896) None) (part (name 3 2) (rect (pos 35712) (pos 0) (pos 896) (pos 51200)) (row modes.VerticalRl) (part (name 10 0) (rect (pos 35712) (pos 47680) (pos 896) (pos 1024)) span (part (name 11 0) (rect (pos 35712) (pos 47680) (pos 896) (pos 1024)) text none none) (part (name 9 0) (rect (pos 35712) (pos 48640) (pos 896) (pos 1024)) text none (part (name 9 0) (rect (pos 35712) (pos 49664) (pos 896) (pos 512)) text none (part (name 9 0) (rect (pos 35712) (pos 50176) (pos 896) (pos 1024)) text none none)))) none) none))) (part (name 1 2) (rect (pos 17024) (pos 0) (pos 18688) (pos 51200)) (box modes.VerticalRl directions.Ltr (pos 51200) (pos 18688) None) (part (name 1 2) (rect (pos 17024) (pos 0) (pos 18688) (pos 51200)) (row modes.VerticalRl) (part (name 12 0) (rect (pos 25920) (pos 0) (pos 896) (pos 1024)) text none (part (name 13 0) (rect (pos 17024) (pos 1024) (pos 18688) (pos 1024)) (box modes.HorizontalTb directions.Ltr (pos 1024) (pos 18688) None) (part (name 13 0) (rect (pos 17024) (pos 1024) (pos 18688) (pos 1024)) (row modes.HorizontalTb) (part (name 14 0) (rect (pos 17024) (pos 1024) (pos 2048) (pos 1024)) text none (part (name 14 0) (rect (pos 19072) (pos 1024) (pos 2048) (pos 1024)) text none (part (name 15 0) (rect (pos 21120) (pos 1024) (pos 1024) (pos 1024)) span (part (name 16 0) (rect (pos 21120) (pos 1024) (pos 1024) (pos 1024)) text none none) (part (name 17 0) (rect (pos 28544) (pos 1024) (pos 1024) (pos 1024)) text none (part (name 17 0) (rect (pos 29568) (pos 1024) (pos 1024) (pos 1024)) text none (part (name 17 0) (rect (pos 30592) (pos 1024) (pos 1024) (pos 1024)) text none (part (name 17 0) (rect (pos 31616) (pos 1024) (pos 1024) (pos 1024)) text none (part (name 18 0) (rect (pos 32704) (pos 3200) (pos 0) (pos 0)) (box modes.VerticalLr directions.Rtl (pos 0) (pos 0) None) none (part (name 20 0) (rect (pos 32640) (pos 1024) (pos 3072) (pos 1024)) text none none))))))))) none) none)) none) none))) none) none))
page-8 = refl
