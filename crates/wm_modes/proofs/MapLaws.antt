-- The laws of the maps, case by case.
use Rattle.std.proofs.Common.{◌≡◌, ◌≤◌, ◌*◌, ◌^◌, ℤ, ◌-ℤ◌, unsigned_abs, arith, ap, ◌∙◌}
use Rattle.std.proofs.lemmas.Int.{ints}
use Rattle.wm_modes.specs.Sides.{side_of}
use Rattle.wm_modes.specs.Map.{map_of, unmap_of, along_line, from_other_end}
use Rattle.wm_modes.specs.Laws.{inset}
use Rattle.wm_modes.specs.declared.mode.WritingMode.{WritingMode}
use Rattle.wm_modes.specs.declared.mode.WritingMode.TheVariants.{HorizontalTb, VerticalRl, VerticalLr, SidewaysRl, SidewaysLr}
use Rattle.wm_modes.specs.declared.mode.Direction.{Direction}
use Rattle.wm_modes.specs.declared.mode.Direction.TheVariants.{Ltr, Rtl}
use Rattle.wm_modes.specs.declared.rects.FlowRect.{FlowRect}
use Rattle.wm_modes.specs.declared.rects.Rect.{Rect}
use Rattle.wm_modes.specs.declared.sides.FlowSide.TheVariants.{InlineStart, BlockStart}

-- a rectangle is its four numbers
pub rect_is : (x y w h : ℤ) (q : Rect) → x ≡ q.x → y ≡ q.y → w ≡ q.w → h ≡ q.h → record { x = x; y = y; w = w; h = h } ≡ q
rect_is x y w h q ex ey ew eh =
    ap (λ (n : ℤ). let r : Rect = record { x = n; y = y; w = w; h = h } in r) ex
    ∙ ap (λ (n : ℤ). let r : Rect = record { x = q.x; y = n; w = w; h = h } in r) ey
    ∙ ap (λ (n : ℤ). let r : Rect = record { x = q.x; y = q.y; w = n; h = h } in r) ew
    ∙ ap (λ (n : ℤ). let r : Rect = record { x = q.x; y = q.y; w = q.w; h = n } in r) eh

pub flow_is : (i b inline block : ℤ) (r : FlowRect) → i ≡ r.i → b ≡ r.b → inline ≡ r.inline → block ≡ r.block → record { i = i; b = b; inline = inline; block = block } ≡ r
flow_is i b inline block r ei eb einline eblock =
    ap (λ (n : ℤ). let q : FlowRect = record { i = n; b = b; inline = inline; block = block } in q) ei
    ∙ ap (λ (n : ℤ). let q : FlowRect = record { i = r.i; b = n; inline = inline; block = block } in q) eb
    ∙ ap (λ (n : ℤ). let q : FlowRect = record { i = r.i; b = r.b; inline = n; block = block } in q) einline
    ∙ ap (λ (n : ℤ). let q : FlowRect = record { i = r.i; b = r.b; inline = r.inline; block = n } in q) eblock

pub back : (mode : WritingMode) (dir : Direction) (area : Rect) (r : FlowRect) → unmap_of mode dir area (map_of mode dir area r) ≡ r
back HorizontalTb Ltr area r = flow_is _ _ _ _ r (omega (arith, ints)) (omega (arith, ints)) (omega (arith, ints)) (omega (arith, ints))
back HorizontalTb Rtl area r = flow_is _ _ _ _ r (omega (arith, ints)) (omega (arith, ints)) (omega (arith, ints)) (omega (arith, ints))
back VerticalRl Ltr area r = flow_is _ _ _ _ r (omega (arith, ints)) (omega (arith, ints)) (omega (arith, ints)) (omega (arith, ints))
back VerticalRl Rtl area r = flow_is _ _ _ _ r (omega (arith, ints)) (omega (arith, ints)) (omega (arith, ints)) (omega (arith, ints))
back VerticalLr Ltr area r = flow_is _ _ _ _ r (omega (arith, ints)) (omega (arith, ints)) (omega (arith, ints)) (omega (arith, ints))
back VerticalLr Rtl area r = flow_is _ _ _ _ r (omega (arith, ints)) (omega (arith, ints)) (omega (arith, ints)) (omega (arith, ints))
back SidewaysRl Ltr area r = flow_is _ _ _ _ r (omega (arith, ints)) (omega (arith, ints)) (omega (arith, ints)) (omega (arith, ints))
back SidewaysRl Rtl area r = flow_is _ _ _ _ r (omega (arith, ints)) (omega (arith, ints)) (omega (arith, ints)) (omega (arith, ints))
back SidewaysLr Ltr area r = flow_is _ _ _ _ r (omega (arith, ints)) (omega (arith, ints)) (omega (arith, ints)) (omega (arith, ints))
back SidewaysLr Rtl area r = flow_is _ _ _ _ r (omega (arith, ints)) (omega (arith, ints)) (omega (arith, ints)) (omega (arith, ints))

pub forth : (mode : WritingMode) (dir : Direction) (area : Rect) (q : Rect) → map_of mode dir area (unmap_of mode dir area q) ≡ q
forth HorizontalTb Ltr area q = rect_is _ _ _ _ q (omega (arith, ints)) (omega (arith, ints)) (omega (arith, ints)) (omega (arith, ints))
forth HorizontalTb Rtl area q = rect_is _ _ _ _ q (omega (arith, ints)) (omega (arith, ints)) (omega (arith, ints)) (omega (arith, ints))
forth VerticalRl Ltr area q = rect_is _ _ _ _ q (omega (arith, ints)) (omega (arith, ints)) (omega (arith, ints)) (omega (arith, ints))
forth VerticalRl Rtl area q = rect_is _ _ _ _ q (omega (arith, ints)) (omega (arith, ints)) (omega (arith, ints)) (omega (arith, ints))
forth VerticalLr Ltr area q = rect_is _ _ _ _ q (omega (arith, ints)) (omega (arith, ints)) (omega (arith, ints)) (omega (arith, ints))
forth VerticalLr Rtl area q = rect_is _ _ _ _ q (omega (arith, ints)) (omega (arith, ints)) (omega (arith, ints)) (omega (arith, ints))
forth SidewaysRl Ltr area q = rect_is _ _ _ _ q (omega (arith, ints)) (omega (arith, ints)) (omega (arith, ints)) (omega (arith, ints))
forth SidewaysRl Rtl area q = rect_is _ _ _ _ q (omega (arith, ints)) (omega (arith, ints)) (omega (arith, ints)) (omega (arith, ints))
forth SidewaysLr Ltr area q = rect_is _ _ _ _ q (omega (arith, ints)) (omega (arith, ints)) (omega (arith, ints)) (omega (arith, ints))
forth SidewaysLr Rtl area q = rect_is _ _ _ _ q (omega (arith, ints)) (omega (arith, ints)) (omega (arith, ints)) (omega (arith, ints))

pub inline_start : (mode : WritingMode) (dir : Direction) (area : Rect) (r : FlowRect) → inset (side_of mode dir InlineStart) area (map_of mode dir area r) ≡ r.i
inline_start HorizontalTb Ltr area r = omega (arith, ints)
inline_start HorizontalTb Rtl area r = omega (arith, ints)
inline_start VerticalRl Ltr area r = omega (arith, ints)
inline_start VerticalRl Rtl area r = omega (arith, ints)
inline_start VerticalLr Ltr area r = omega (arith, ints)
inline_start VerticalLr Rtl area r = omega (arith, ints)
inline_start SidewaysRl Ltr area r = omega (arith, ints)
inline_start SidewaysRl Rtl area r = omega (arith, ints)
inline_start SidewaysLr Ltr area r = omega (arith, ints)
inline_start SidewaysLr Rtl area r = omega (arith, ints)

pub block_start : (mode : WritingMode) (dir : Direction) (area : Rect) (r : FlowRect) → inset (side_of mode dir BlockStart) area (map_of mode dir area r) ≡ r.b
block_start HorizontalTb dir area r = omega (arith, ints)
block_start VerticalRl dir area r = omega (arith, ints)
block_start VerticalLr dir area r = omega (arith, ints)
block_start SidewaysRl dir area r = omega (arith, ints)
block_start SidewaysLr dir area r = omega (arith, ints)

-- equal lengths have equal places along the line
pub along_line_same : (dir : Direction) (whole start extent w s e place : ℤ) → place ≡ along_line dir whole start extent → whole ≡ w → start ≡ s → extent ≡ e → place ≡ along_line dir w s e
along_line_same dir whole start extent w s e place is ew es ee =
    is ∙ ap (λ (n : ℤ). along_line dir n start extent) ew ∙ ap (λ (n : ℤ). along_line dir w n extent) es ∙ ap (λ (n : ℤ). along_line dir w s n) ee

-- how far the other end of a piece of the page can be
pub end_is_near : (whole origin place extent : ℤ) → unsigned_abs whole ≤ 2 ^ 60 → unsigned_abs origin ≤ 2 ^ 60 → unsigned_abs place ≤ 2 ^ 60 → unsigned_abs extent ≤ 2 ^ 60
    → unsigned_abs (from_other_end whole (place -ℤ origin) extent) ≤ 4 * 2 ^ 60
end_is_near whole origin place extent near_whole near_origin near_place near_extent = omega (arith, ints)
