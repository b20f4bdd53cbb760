-- Pages of flows with the pages that an independent implementation turns them to, by computation.
use Rattle.std.specs.Prelude.{◌≡◌, refl, ℕ, false, [], None, ℤ, pos}
use Rattle.wm_modes.specs.declared.mode.Direction.TheVariants as directions
use Rattle.wm_modes.specs.declared.mode.WritingMode.{WritingMode}
use Rattle.wm_modes.specs.declared.mode.WritingMode.TheVariants as modes
use Rattle.style_types.specs.declared.style.Baseline.TheVariants as bases
use Rattle.fragment_types.specs.declared.unit_kind.UnitKind.{UnitKind}
use Rattle.fragment_types.specs.declared.unit_kind.UnitKind.TheVariants as kinds
use Rattle.fragment_types.specs.Fragment.{block, line, span, run}
use Rattle.place_map.specs.Placed.{Page, Parts, none, part}
use Rattle.page_turn.specs.Turning.{turned}

-- a page, and its fragments: a box with what stands inside it, and the others with what follows them
abbrev page : (inline across : ℤ) → Parts → Page
page inline across parts = record { view = record { inline = inline; block = across }; parts = parts }

abbrev box : WritingMode → (node ordinal : ℕ) (x y w h : ℤ) (inner : Parts) → Parts
box mode node ordinal x y w h inner =
    part (record { node = node; ordinal = ordinal }) (record { x = x; y = y; w = w; h = h })
    (block mode directions.Ltr (record { i = pos 1; b = pos 2; inline = pos 3; block = pos 4 }) None (record { positive = pos 0; negative = pos 0 }) (record { positive = pos 0; negative = pos 0 }) false)
    inner none

abbrev line_at : WritingMode → (node ordinal index : ℕ) (x y w h base : ℤ) (next : Parts) → Parts
line_at mode node ordinal index x y w h base next =
    part (record { node = node; ordinal = ordinal }) (record { x = x; y = y; w = w; h = h }) (line index base mode bases.Alphabetic) none next

abbrev span_at : (node ordinal : ℕ) (x y w h : ℤ) (next : Parts) → Parts
span_at node ordinal x y w h next = part (record { node = node; ordinal = ordinal }) (record { x = x; y = y; w = w; h = h }) span none next

abbrev run_at : (node : ℕ) (x y w h : ℤ) → UnitKind → (level : ℕ) (next : Parts) → Parts
run_at node x y w h form level next =
    part (record { node = node; ordinal = 0 }) (record { x = x; y = y; w = w; h = h }) (run form level None []) none next

turn-1 : turned modes.HorizontalTb (page (pos 12800) (pos 6400) (box modes.HorizontalTb 0 0 (pos 0) (pos 0) (pos 12800) (pos 2432) (box modes.HorizontalTb 1 0 (pos 512) (pos 0) (pos 11776) (pos 2432) (line_at modes.HorizontalTb 1 0 0 (pos 512) (pos 0) (pos 11776) (pos 2432) (pos 1856) (run_at 2 (pos 512) (pos 1216) (pos 1024) (pos 896) kinds.Along 1 (run_at 2 (pos 1536) (pos 1216) (pos 1024) (pos 896) kinds.Along 0 (box modes.HorizontalTb 3 0 (pos 2560) (pos 0) (pos 2048) (pos 2432) (box modes.HorizontalTb 4 0 (pos 2560) (pos 0) (pos 2048) (pos 896) (line_at modes.HorizontalTb 4 0 0 (pos 2560) (pos 0) (pos 2048) (pos 896) (pos 640) (run_at 5 (pos 2560) (pos 0) (pos 1024) (pos 896) kinds.Along 0 (box modes.HorizontalTb 3 1 (pos 2560) (pos 896) (pos 2048) (pos 1536) (line_at modes.HorizontalTb 3 1 0 (pos 2560) (pos 896) (pos 2048) (pos 1536) (pos 960) (run_at 8 (pos 2560) (pos 1216) (pos 512) (pos 896) kinds.Along 0 (span_at 9 0 (pos 3072) (pos 1216) (pos 512) (pos 896) (span_at 10 0 (pos 3072) (pos 1216) (pos 512) (pos 896) (run_at 11 (pos 3072) (pos 1216) (pos 512) (pos 896) kinds.Along 4 (run_at 12 (pos 3584) (pos 1216) (pos 1024) (pos 896) kinds.Along 0 (run_at 13 (pos 4608) (pos 1216) (pos 2560) (pos 896) kinds.Along 0 none)))))))))))))))))) ≡ page (pos 12800) (pos 6400) (box modes.HorizontalTb 0 0 (pos 0) (pos 0) (pos 12800) (pos 2432) (box modes.HorizontalTb 1 0 (pos 512) (pos 0) (pos 11776) (pos 2432) (line_at modes.HorizontalTb 1 0 0 (pos 512) (pos 0) (pos 11776) (pos 2432) (pos 1856) (run_at 2 (pos 512) (pos 1216) (pos 1024) (pos 896) kinds.Along 1 (run_at 2 (pos 1536) (pos 1216) (pos 1024) (pos 896) kinds.Along 0 (box modes.HorizontalTb 3 0 (pos 2560) (pos 0) (pos 2048) (pos 2432) (box modes.HorizontalTb 4 0 (pos 2560) (pos 0) (pos 2048) (pos 896) (line_at modes.HorizontalTb 4 0 0 (pos 2560) (pos 0) (pos 2048) (pos 896) (pos 640) (run_at 5 (pos 2560) (pos 0) (pos 1024) (pos 896) kinds.Along 0 (box modes.HorizontalTb 3 1 (pos 2560) (pos 896) (pos 2048) (pos 1536) (line_at modes.HorizontalTb 3 1 0 (pos 2560) (pos 896) (pos 2048) (pos 1536) (pos 960) (run_at 8 (pos 2560) (pos 1216) (pos 512) (pos 896) kinds.Along 0 (span_at 9 0 (pos 3072) (pos 1216) (pos 512) (pos 896) (span_at 10 0 (pos 3072) (pos 1216) (pos 512) (pos 896) (run_at 11 (pos 3072) (pos 1216) (pos 512) (pos 896) kinds.Along 4 (run_at 12 (pos 3584) (pos 1216) (pos 1024) (pos 896) kinds.Along 0 (run_at 13 (pos 4608) (pos 1216) (pos 2560) (pos 896) kinds.Along 0 none)))))))))))))))))
turn-1 = refl

turn-2 : turned modes.HorizontalTb (page (pos 6400) (pos 3200) (box modes.HorizontalTb 0 0 (pos 0) (pos 0) (pos 6400) (pos 5824) (box modes.HorizontalTb 1 0 (pos 512) (pos 512) (pos 5376) (pos 4800) (box modes.HorizontalTb 1 1 (pos 512) (pos 512) (pos 5376) (pos 1024) (line_at modes.HorizontalTb 1 1 0 (pos 512) (pos 512) (pos 5376) (pos 1024) (pos 768) (run_at 2 (pos 512) (pos 512) (pos 1024) (pos 1024) kinds.Along 0 (box modes.HorizontalTb 4 0 (pos 512) (pos 1536) (pos 5376) (pos 1536) (line_at modes.HorizontalTb 4 0 0 (pos 512) (pos 1536) (pos 5376) (pos 1024) (pos 768) (run_at 5 (pos 512) (pos 1536) (pos 1024) (pos 1024) kinds.Along 0 (box modes.HorizontalTb 1 2 (pos 512) (pos 3072) (pos 5376) (pos 2240) (line_at modes.HorizontalTb 1 2 0 (pos 512) (pos 3072) (pos 5376) (pos 1024) (pos 768) (run_at 6 (pos 512) (pos 3072) (pos 5120) (pos 1024) kinds.Along 0 (line_at modes.HorizontalTb 1 2 1 (pos 512) (pos 4096) (pos 5376) (pos 1216) (pos 960) (run_at 6 (pos 512) (pos 4288) (pos 2048) (pos 1024) kinds.Along 0 (span_at 7 0 (pos 2560) (pos 4096) (pos 512) (pos 1024) (run_at 8 (pos 2560) (pos 4096) (pos 512) (pos 1024) kinds.Along 0 (run_at 9 (pos 3072) (pos 4288) (pos 1536) (pos 1024) kinds.Along 0 none))))))))))))))))) ≡ page (pos 6400) (pos 3200) (box modes.HorizontalTb 0 0 (pos 0) (pos 0) (pos 6400) (pos 5824) (box modes.HorizontalTb 1 0 (pos 512) (pos 512) (pos 5376) (pos 4800) (box modes.HorizontalTb 1 1 (pos 512) (pos 512) (pos 5376) (pos 1024) (line_at modes.HorizontalTb 1 1 0 (pos 512) (pos 512) (pos 5376) (pos 1024) (pos 768) (run_at 2 (pos 512) (pos 512) (pos 1024) (pos 1024) kinds.Along 0 (box modes.HorizontalTb 4 0 (pos 512) (pos 1536) (pos 5376) (pos 1536) (line_at modes.HorizontalTb 4 0 0 (pos 512) (pos 1536) (pos 5376) (pos 1024) (pos 768) (run_at 5 (pos 512) (pos 1536) (pos 1024) (pos 1024) kinds.Along 0 (box modes.HorizontalTb 1 2 (pos 512) (pos 3072) (pos 5376) (pos 2240) (line_at modes.HorizontalTb 1 2 0 (pos 512) (pos 3072) (pos 5376) (pos 1024) (pos 768) (run_at 6 (pos 512) (pos 3072) (pos 5120) (pos 1024) kinds.Along 0 (line_at modes.HorizontalTb 1 2 1 (pos 512) (pos 4096) (pos 5376) (pos 1216) (pos 960) (run_at 6 (pos 512) (pos 4288) (pos 2048) (pos 1024) kinds.Along 0 (span_at 7 0 (pos 2560) (pos 4096) (pos 512) (pos 1024) (run_at 8 (pos 2560) (pos 4096) (pos 512) (pos 1024) kinds.Along 0 (run_at 9 (pos 3072) (pos 4288) (pos 1536) (pos 1024) kinds.Along 0 none))))))))))))))))
turn-2 = refl

turn-3 : turned modes.SidewaysLr (page (pos 51200) (pos 38400) (box modes.HorizontalTb 0 0 (pos 0) (pos 0) (pos 51200) (pos 3072) (box modes.HorizontalTb 1 0 (pos 512) (pos 0) (pos 50176) (pos 3072) (box modes.HorizontalTb 1 1 (pos 512) (pos 0) (pos 50176) (pos 1024) (line_at modes.HorizontalTb 1 1 0 (pos 512) (pos 0) (pos 50176) (pos 1024) (pos 768) (run_at 2 (pos 48640) (pos 0) (pos 512) (pos 1024) kinds.Along 2 (run_at 2 (pos 49152) (pos 0) (pos 1536) (pos 1024) kinds.Along 1 (box modes.HorizontalTb 3 0 (pos 512) (pos 1024) (pos 50176) (pos 2048) (line_at modes.HorizontalTb 3 0 0 (pos 512) (pos 1024) (pos 50176) (pos 1024) (pos 768) (span_at 4 0 (pos 41984) (pos 1024) (pos 8704) (pos 1024) (run_at 5 (pos 41984) (pos 1024) (pos 7680) (pos 1024) kinds.Along 2 (box modes.HorizontalTb 6 0 (pos 49664) (pos 1024) (pos 512) (pos 1024) (line_at modes.HorizontalTb 6 0 0 (pos 49664) (pos 1024) (pos 512) (pos 1024) (pos 768) (run_at 7 (pos 49664) (pos 1024) (pos 512) (pos 1024) kinds.Along 2 (run_at 8 (pos 50176) (pos 1024) (pos 512) (pos 1024) kinds.Along 2 (line_at modes.HorizontalTb 3 0 1 (pos 512) (pos 2048) (pos 50176) (pos 1024) (pos 768) (span_at 4 0 (pos 49152) (pos 2048) (pos 1024) (pos 1024) (run_at 10 (pos 49152) (pos 2048) (pos 1024) (pos 1024) kinds.Along 2 (run_at 11 (pos 50176) (pos 2048) (pos 512) (pos 1024) kinds.Along 2 none))))))))))))))))))) ≡ page (pos 51200) (pos 38400) (box modes.SidewaysLr 0 0 (pos 0) (pos 0) (pos 3072) (pos 51200) (box modes.SidewaysLr 1 0 (pos 0) (pos 512) (pos 3072) (pos 50176) (box modes.SidewaysLr 1 1 (pos 0) (pos 512) (pos 1024) (pos 50176) (line_at modes.SidewaysLr 1 1 0 (pos 0) (pos 512) (pos 1024) (pos 50176) (pos 768) (run_at 2 (pos 0) (pos 2048) (pos 1024) (pos 512) kinds.Along 2 (run_at 2 (pos 0) (pos 512) (pos 1024) (pos 1536) kinds.Along 1 (box modes.SidewaysLr 3 0 (pos 1024) (pos 512) (pos 2048) (pos 50176) (line_at modes.SidewaysLr 3 0 0 (pos 1024) (pos 512) (pos 1024) (pos 50176) (pos 768) (span_at 4 0 (pos 1024) (pos 512) (pos 1024) (pos 8704) (run_at 5 (pos 1024) (pos 1536) (pos 1024) (pos 7680) kinds.Along 2 (box modes.SidewaysLr 6 0 (pos 1024) (pos 1024) (pos 1024) (pos 512) (line_at modes.SidewaysLr 6 0 0 (pos 1024) (pos 1024) (pos 1024) (pos 512) (pos 768) (run_at 7 (pos 1024) (pos 1024) (pos 1024) (pos 512) kinds.Along 2 (run_at 8 (pos 1024) (pos 512) (pos 1024) (pos 512) kinds.Along 2 (line_at modes.SidewaysLr 3 0 1 (pos 2048) (pos 512) (pos 1024) (pos 50176) (pos 768) (span_at 4 0 (pos 2048) (pos 1024) (pos 1024) (pos 1024) (run_at 10 (pos 2048) (pos 1024) (pos 1024) (pos 1024) kinds.Along 2 (run_at 11 (pos 2048) (pos 512) (pos 1024) (pos 512) kinds.Along 2 none))))))))))))))))))
turn-3 = refl

turn-4 : turned modes.SidewaysRl (page (pos 1536) (pos 15424) (box modes.HorizontalTb 0 0 (pos 0) (pos 0) (pos 1536) (pos 2688) (box modes.HorizontalTb 1 0 (pos 512) (pos 0) (pos 512) (pos 2688) (box modes.HorizontalTb 1 1 (pos 512) (pos 0) (pos 512) (pos 896) (line_at modes.HorizontalTb 1 1 0 (pos 512) (pos 0) (pos 512) (pos 896) (pos 640) (span_at 2 0 (pos 512) (pos 0) (pos 512) (pos 896) (run_at 3 (pos 512) (pos 0) (pos 512) (pos 896) kinds.Along 0 (box modes.HorizontalTb 5 0 (pos 512) (pos 896) (pos 512) (pos 1792) (line_at modes.HorizontalTb 5 0 0 (pos 512) (pos 896) (pos 512) (pos 896) (pos 640) (run_at 6 (pos 512) (pos 896) (pos 1024) (pos 896) kinds.Along 0 (line_at modes.HorizontalTb 5 0 1 (pos 512) (pos 1792) (pos 512) (pos 896) (pos 640) (run_at 6 (pos 512) (pos 1792) (pos 1024) (pos 896) kinds.Along 0 none)))))))))))) ≡ page (pos 1536) (pos 15424) (box modes.SidewaysRl 0 0 (pos 12736) (pos 0) (pos 2688) (pos 1536) (box modes.SidewaysRl 1 0 (pos 12736) (pos 512) (pos 2688) (pos 512) (box modes.SidewaysRl 1 1 (pos 14528) (pos 512) (pos 896) (pos 512) (line_at modes.SidewaysRl 1 1 0 (pos 14528) (pos 512) (pos 896) (pos 512) (pos 640) (span_at 2 0 (pos 14528) (pos 512) (pos 896) (pos 512) (run_at 3 (pos 14528) (pos 512) (pos 896) (pos 512) kinds.Along 0 (box modes.SidewaysRl 5 0 (pos 12736) (pos 512) (pos 1792) (pos 512) (line_at modes.SidewaysRl 5 0 0 (pos 13632) (pos 512) (pos 896) (pos 512) (pos 640) (run_at 6 (pos 13632) (pos 512) (pos 896) (pos 1024) kinds.Along 0 (line_at modes.SidewaysRl 5 0 1 (pos 12736) (pos 512) (pos 896) (pos 512) (pos 640) (run_at 6 (pos 12736) (pos 512) (pos 896) (pos 1024) kinds.Along 0 none)))))))))))
turn-4 = refl

turn-5 : turned modes.SidewaysLr (page (pos 12800) (pos 6400) (box modes.HorizontalTb 0 0 (pos 0) (pos 0) (pos 12800) (pos 3072) (box modes.HorizontalTb 1 0 (pos 512) (pos 0) (pos 11776) (pos 3072) (box modes.HorizontalTb 2 0 (pos 512) (pos 0) (pos 11776) (pos 2048) (box modes.HorizontalTb 3 0 (pos 512) (pos 0) (pos 11776) (pos 1024) (line_at modes.HorizontalTb 3 0 0 (pos 512) (pos 0) (pos 11776) (pos 1024) (pos 896) (run_at 4 (pos 512) (pos 0) (pos 10240) (pos 1024) kinds.Along 0 (box modes.HorizontalTb 2 1 (pos 512) (pos 1024) (pos 11776) (pos 1024) (line_at modes.HorizontalTb 2 1 0 (pos 512) (pos 1024) (pos 11776) (pos 1024) (pos 768) (span_at 5 0 (pos 512) (pos 1024) (pos 5120) (pos 1024) (run_at 6 (pos 512) (pos 1024) (pos 2048) (pos 1024) kinds.Along 3 (run_at 6 (pos 2560) (pos 1024) (pos 3072) (pos 1024) kinds.Along 2 (box modes.HorizontalTb 1 1 (pos 512) (pos 2048) (pos 11776) (pos 1024) (line_at modes.HorizontalTb 1 1 0 (pos 512) (pos 2048) (pos 11776) (pos 1024) (pos 768) (run_at 8 (pos 512) (pos 2048) (pos 3072) (pos 1024) kinds.Along 0 none))))))))))))))) ≡ page (pos 12800) (pos 6400) (box modes.SidewaysLr 0 0 (pos 0) (pos 0) (pos 3072) (pos 12800) (box modes.SidewaysLr 1 0 (pos 0) (pos 512) (pos 3072) (pos 11776) (box modes.SidewaysLr 2 0 (pos 0) (pos 512) (pos 2048) (pos 11776) (box modes.SidewaysLr 3 0 (pos 0) (pos 512) (pos 1024) (pos 11776) (line_at modes.SidewaysLr 3 0 0 (pos 0) (pos 512) (pos 1024) (pos 11776) (pos 896) (run_at 4 (pos 0) (pos 2048) (pos 1024) (pos 10240) kinds.Along 0 (box modes.SidewaysLr 2 1 (pos 1024) (pos 512) (pos 1024) (pos 11776) (line_at modes.SidewaysLr 2 1 0 (pos 1024) (pos 512) (pos 1024) (pos 11776) (pos 768) (span_at 5 0 (pos 1024) (pos 7168) (pos 1024) (pos 5120) (run_at 6 (pos 1024) (pos 10240) (pos 1024) (pos 2048) kinds.Along 3 (run_at 6 (pos 1024) (pos 7168) (pos 1024) (pos 3072) kinds.Along 2 (box modes.SidewaysLr 1 1 (pos 2048) (pos 512) (pos 1024) (pos 11776) (line_at modes.SidewaysLr 1 1 0 (pos 2048) (pos 512) (pos 1024) (pos 11776) (pos 768) (run_at 8 (pos 2048) (pos 9216) (pos 1024) (pos 3072) kinds.Along 0 none))))))))))))))
turn-5 = refl

turn-6 : turned modes.VerticalRl (page (pos 12800) (pos 6400) (box modes.HorizontalTb 0 0 (pos 0) (pos 0) (pos 12800) (pos 3072) (box modes.HorizontalTb 1 0 (pos 512) (pos 0) (pos 11776) (pos 3072) (box modes.HorizontalTb 1 1 (pos 512) (pos 0) (pos 11776) (pos 1024) (line_at modes.HorizontalTb 1 1 0 (pos 512) (pos 0) (pos 11776) (pos 1024) (pos 896) (run_at 2 (pos 512) (pos 0) (pos 2048) (pos 1024) kinds.Along 1 (run_at 2 (pos 2560) (pos 0) (pos 2048) (pos 1024) kinds.Along 0 (box modes.HorizontalTb 3 0 (pos 512) (pos 1024) (pos 11776) (pos 2048) (line_at modes.HorizontalTb 3 0 0 (pos 512) (pos 1024) (pos 11776) (pos 1024) (pos 896) (run_at 4 (pos 768) (pos 1024) (pos 4096) (pos 1024) kinds.Along 0 (span_at 5 0 (pos 4864) (pos 512) (pos 6144) (pos 1536) (run_at 6 (pos 4864) (pos 1024) (pos 1024) (pos 1024) kinds.Along 0 (span_at 7 0 (pos 5888) (pos 1024) (pos 3072) (pos 1024) (run_at 8 (pos 5888) (pos 1024) (pos 3072) (pos 1024) kinds.Along 0 (run_at 9 (pos 8960) (pos 1024) (pos 2048) (pos 1024) kinds.Along 0 (run_at 10 (pos 11008) (pos 1024) (pos 1024) (pos 1024) kinds.Along 0 (line_at modes.HorizontalTb 3 0 1 (pos 512) (pos 2048) (pos 11776) (pos 1024) (pos 896) (run_at 12 (pos 5376) (pos 2048) (pos 2048) (pos 1024) kinds.Along 0 none)))))))))))))))))) ≡ page (pos 12800) (pos 6400) (box modes.VerticalRl 0 0 (pos 3328) (pos 0) (pos 3072) (pos 12800) (box modes.VerticalRl 1 0 (pos 3328) (pos 512) (pos 3072) (pos 11776) (box modes.VerticalRl 1 1 (pos 5376) (pos 512) (pos 1024) (pos 11776) (line_at modes.VerticalRl 1 1 0 (pos 5376) (pos 512) (pos 1024) (pos 11776) (pos 896) (run_at 2 (pos 5376) (pos 512) (pos 1024) (pos 2048) kinds.Turned 1 (run_at 2 (pos 5376) (pos 2560) (pos 1024) (pos 2048) kinds.Turned 0 (box modes.VerticalRl 3 0 (pos 3328) (pos 512) (pos 2048) (pos 11776) (line_at modes.VerticalRl 3 0 0 (pos 4352) (pos 512) (pos 1024) (pos 11776) (pos 896) (run_at 4 (pos 4352) (pos 768) (pos 1024) (pos 4096) kinds.Turned 0 (span_at 5 0 (pos 4352) (pos 4864) (pos 1536) (pos 6144) (run_at 6 (pos 4352) (pos 4864) (pos 1024) (pos 1024) kinds.Turned 0 (span_at 7 0 (pos 4352) (pos 5888) (pos 1024) (pos 3072) (run_at 8 (pos 4352) (pos 5888) (pos 1024) (pos 3072) kinds.Turned 0 (run_at 9 (pos 4352) (pos 8960) (pos 1024) (pos 2048) kinds.Turned 0 (run_at 10 (pos 4352) (pos 11008) (pos 1024) (pos 1024) kinds.Turned 0 (line_at modes.VerticalRl 3 0 1 (pos 3328) (pos 512) (pos 1024) (pos 11776) (pos 896) (run_at 12 (pos 3328) (pos 5376) (pos 1024) (pos 2048) kinds.Turned 0 none)))))))))))))))))
turn-6 = refl

turn-7 : turned modes.SidewaysRl (page (pos 6400) (pos 3200) (box modes.HorizontalTb 0 0 (pos 0) (pos 0) (pos 6400) (pos 2048) (box modes.HorizontalTb 1 0 (pos 0) (pos 0) (pos 6400) (pos 2048) (box modes.HorizontalTb 2 0 (pos 0) (pos 0) (pos 6400) (pos 1024) (line_at modes.HorizontalTb 2 0 0 (pos 0) (pos 0) (pos 6400) (pos 1024) (pos 768) (run_at 3 (pos 5376) (pos 0) (pos 1024) (pos 1024) kinds.Along 2 (box modes.HorizontalTb 1 1 (pos 0) (pos 1024) (pos 6400) (pos 1024) (line_at modes.HorizontalTb 1 1 0 (pos 0) (pos 1024) (pos 6400) (pos 1024) (pos 768) (run_at 6 (pos 5888) (pos 1024) (pos 512) (pos 1024) kinds.Along 2 none))))))))) ≡ page (pos 6400) (pos 3200) (box modes.SidewaysRl 0 0 (pos 1152) (pos 0) (pos 2048) (pos 6400) (box modes.SidewaysRl 1 0 (pos 1152) (pos 0) (pos 2048) (pos 6400) (box modes.SidewaysRl 2 0 (pos 2176) (pos 0) (pos 1024) (pos 6400) (line_at modes.SidewaysRl 2 0 0 (pos 2176) (pos 0) (pos 1024) (pos 6400) (pos 768) (run_at 3 (pos 2176) (pos 5376) (pos 1024) (pos 1024) kinds.Along 2 (box modes.SidewaysRl 1 1 (pos 1152) (pos 0) (pos 1024) (pos 6400) (line_at modes.SidewaysRl 1 1 0 (pos 1152) (pos 0) (pos 1024) (pos 6400) (pos 768) (run_at 6 (pos 1152) (pos 5888) (pos 1024) (pos 512) kinds.Along 2 none))))))))
turn-7 = refl

turn-8 : turned modes.SidewaysLr (page (pos 51200) (pos 38400) (box modes.HorizontalTb 0 0 (pos 0) (pos 0) (pos 51200) (pos 4096) (box modes.HorizontalTb 1 0 (pos 512) (pos 0) (pos 50176) (pos 4096) (line_at modes.HorizontalTb 1 0 0 (pos 512) (pos 0) (pos 50176) (pos 1024) (pos 768) (line_at modes.HorizontalTb 1 0 1 (pos 512) (pos 1024) (pos 50176) (pos 1024) (pos 768) (line_at modes.HorizontalTb 1 0 2 (pos 512) (pos 2048) (pos 50176) (pos 1024) (pos 768) (span_at 6 0 (pos 50176) (pos 2048) (pos 0) (pos 1024) (run_at 5 (pos 50176) (pos 2048) (pos 512) (pos 1024) kinds.Along 2 (line_at modes.HorizontalTb 1 0 3 (pos 512) (pos 3072) (pos 50176) (pos 1024) (pos 768) (run_at 8 (pos 50176) (pos 3072) (pos 512) (pos 1024) kinds.Along 2 none)))))))))) ≡ page (pos 51200) (pos 38400) (box modes.SidewaysLr 0 0 (pos 0) (pos 0) (pos 4096) (pos 51200) (box modes.SidewaysLr 1 0 (pos 0) (pos 512) (pos 4096) (pos 50176) (line_at modes.SidewaysLr 1 0 0 (pos 0) (pos 512) (pos 1024) (pos 50176) (pos 768) (line_at modes.SidewaysLr 1 0 1 (pos 1024) (pos 512) (pos 1024) (pos 50176) (pos 768) (line_at modes.SidewaysLr 1 0 2 (pos 2048) (pos 512) (pos 1024) (pos 50176) (pos 768) (span_at 6 0 (pos 2048) (pos 1024) (pos 1024) (pos 0) (run_at 5 (pos 2048) (pos 512) (pos 1024) (pos 512) kinds.Along 2 (line_at modes.SidewaysLr 1 0 3 (pos 3072) (pos 512) (pos 1024) (pos 50176) (pos 768) (run_at 8 (pos 3072) (pos 512) (pos 1024) (pos 512) kinds.Along 2 none)))))))))
turn-8 = refl

turn-9 : turned modes.VerticalRl (page (pos 51200) (pos 38400) (box modes.HorizontalTb 0 0 (pos 0) (pos 0) (pos 51200) (pos 2816) (box modes.HorizontalTb 1 0 (pos 512) (pos 512) (pos 50176) (pos 1792) (box modes.HorizontalTb 1 1 (pos 512) (pos 512) (pos 50176) (pos 896) (line_at modes.HorizontalTb 1 1 0 (pos 512) (pos 512) (pos 50176) (pos 896) (pos 640) (run_at 2 (pos 512) (pos 512) (pos 512) (pos 896) kinds.Along 2 (box modes.HorizontalTb 3 0 (pos 512) (pos 1408) (pos 50176) (pos 0) (box modes.HorizontalTb 1 2 (pos 512) (pos 1408) (pos 50176) (pos 896) (line_at modes.HorizontalTb 1 2 0 (pos 512) (pos 1408) (pos 50176) (pos 896) (pos 640) (span_at 4 0 (pos 512) (pos 1408) (pos 1024) (pos 896) (run_at 5 (pos 512) (pos 1408) (pos 1024) (pos 896) kinds.Along 0 (run_at 6 (pos 1536) (pos 1408) (pos 2560) (pos 896) kinds.Along 0 none)))))))))))) ≡ page (pos 51200) (pos 38400) (box modes.VerticalRl 0 0 (pos 35584) (pos 0) (pos 2816) (pos 51200) (box modes.VerticalRl 1 0 (pos 36096) (pos 512) (pos 1792) (pos 50176) (box modes.VerticalRl 1 1 (pos 36992) (pos 512) (pos 896) (pos 50176) (line_at modes.VerticalRl 1 1 0 (pos 36992) (pos 512) (pos 896) (pos 50176) (pos 640) (run_at 2 (pos 36992) (pos 512) (pos 896) (pos 512) kinds.Turned 2 (box modes.VerticalRl 3 0 (pos 36992) (pos 512) (pos 0) (pos 50176) (box modes.VerticalRl 1 2 (pos 36096) (pos 512) (pos 896) (pos 50176) (line_at modes.VerticalRl 1 2 0 (pos 36096) (pos 512) (pos 896) (pos 50176) (pos 640) (span_at 4 0 (pos 36096) (pos 512) (pos 896) (pos 1024) (run_at 5 (pos 36096) (pos 512) (pos 896) (pos 1024) kinds.Turned 0 (run_at 6 (pos 36096) (pos 1536) (pos 896) (pos 2560) kinds.Turned 0 none)))))))))))
turn-9 = refl

turn-10 : turned modes.VerticalRl (page (pos 6400) (pos 3200) (box modes.HorizontalTb 0 0 (pos 0) (pos 0) (pos 6400) (pos 2048) (box modes.HorizontalTb 1 0 (pos 512) (pos 0) (pos 5376) (pos 2048) (box modes.HorizontalTb 3 0 (pos 512) (pos 0) (pos 5376) (pos 1024) (line_at modes.HorizontalTb 3 0 0 (pos 512) (pos 0) (pos 5376) (pos 1024) (pos 896) (run_at 4 (pos 2816) (pos 0) (pos 3072) (pos 1024) kinds.Along 2 (box modes.HorizontalTb 1 1 (pos 512) (pos 1024) (pos 5376) (pos 1024) (line_at modes.HorizontalTb 1 1 0 (pos 512) (pos 1024) (pos 5376) (pos 1024) (pos 768) (run_at 5 (pos 4864) (pos 1024) (pos 1024) (pos 1024) kinds.Along 2 none))))))))) ≡ page (pos 6400) (pos 3200) (box modes.VerticalRl 0 0 (pos 1152) (pos 0) (pos 2048) (pos 6400) (box modes.VerticalRl 1 0 (pos 1152) (pos 512) (pos 2048) (pos 5376) (box modes.VerticalRl 3 0 (pos 2176) (pos 512) (pos 1024) (pos 5376) (line_at modes.VerticalRl 3 0 0 (pos 2176) (pos 512) (pos 1024) (pos 5376) (pos 896) (run_at 4 (pos 2176) (pos 2816) (pos 1024) (pos 3072) kinds.Turned 2 (box modes.VerticalRl 1 1 (pos 1152) (pos 512) (pos 1024) (pos 5376) (line_at modes.VerticalRl 1 1 0 (pos 1152) (pos 512) (pos 1024) (pos 5376) (pos 768) (run_at 5 (pos 1152) (pos 4864) (pos 1024) (pos 1024) kinds.Turned 2 none))))))))
turn-10 = refl

turn-11 : turned modes.SidewaysRl (page (pos 51200) (pos 38400) (box modes.HorizontalTb 0 0 (pos 0) (pos 0) (pos 51200) (pos 5632) (box modes.HorizontalTb 1 0 (pos 0) (pos 1024) (pos 51200) (pos 4608) (box modes.HorizontalTb 2 0 (pos 0) (pos 1024) (pos 51200) (pos 896) (line_at modes.HorizontalTb 2 0 0 (pos 0) (pos 1024) (pos 51200) (pos 896) (pos 640) (run_at 3 (pos 0) (pos 1024) (pos 512) (pos 896) kinds.Along 0 (box modes.HorizontalTb 1 1 (pos 0) (pos 2944) (pos 51200) (pos 2688) (line_at modes.HorizontalTb 1 1 0 (pos 0) (pos 2944) (pos 51200) (pos 896) (pos 640) (run_at 4 (pos 0) (pos 2944) (pos 512) (pos 896) kinds.Along 0 (line_at modes.HorizontalTb 1 1 1 (pos 0) (pos 3840) (pos 51200) (pos 1792) (pos 1280) (span_at 6 0 (pos 0) (pos 3840) (pos 2048) (pos 1792) (run_at 7 (pos 0) (pos 3840) (pos 2048) (pos 1792) kinds.Along 0 (run_at 8 (pos 2048) (pos 4480) (pos 512) (pos 896) kinds.Along 0 none))))))))))))) ≡ page (pos 51200) (pos 38400) (box modes.SidewaysRl 0 0 (pos 32768) (pos 0) (pos 5632) (pos 51200) (box modes.SidewaysRl 1 0 (pos 32768) (pos 0) (pos 4608) (pos 51200) (box modes.SidewaysRl 2 0 (pos 36480) (pos 0) (pos 896) (pos 51200) (line_at modes.SidewaysRl 2 0 0 (pos 36480) (pos 0) (pos 896) (pos 51200) (pos 640) (run_at 3 (pos 36480) (pos 0) (pos 896) (pos 512) kinds.Along 0 (box modes.SidewaysRl 1 1 (pos 32768) (pos 0) (pos 2688) (pos 51200) (line_at modes.SidewaysRl 1 1 0 (pos 34560) (pos 0) (pos 896) (pos 51200) (pos 640) (run_at 4 (pos 34560) (pos 0) (pos 896) (pos 512) kinds.Along 0 (line_at modes.SidewaysRl 1 1 1 (pos 32768) (pos 0) (pos 1792) (pos 51200) (pos 1280) (span_at 6 0 (pos 32768) (pos 0) (pos 1792) (pos 2048) (run_at 7 (pos 32768) (pos 0) (pos 1792) (pos 2048) kinds.Along 0 (run_at 8 (pos 33024) (pos 2048) (pos 896) (pos 512) kinds.Along 0 none))))))))))))
turn-11 = refl
