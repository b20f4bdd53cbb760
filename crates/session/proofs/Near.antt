-- Fragments that don't spread too far are near.
use Rattle.std.proofs.Common.{arith, Bool, true, false, ◌-◌, ℕ, ◌+◌, ◌≤◌, ◌^◌, unsigned_abs, ℤ, ◌+ℤ◌}
use Rattle.std.proofs.lemmas.Int.{ints}
use Rattle.wm_modes.specs.Map.{along_line, from_other_end, map_of}
use Rattle.wm_modes.specs.Near.{IsNear, IsNearFlow}
use Rattle.wm_modes.specs.declared.mode.Direction.{Direction}
use Rattle.wm_modes.specs.declared.mode.Direction.TheVariants.{Ltr, Rtl}
use Rattle.wm_modes.specs.declared.mode.WritingMode.{WritingMode}
use Rattle.wm_modes.specs.declared.mode.WritingMode.TheVariants.{HorizontalTb, VerticalRl, VerticalLr, SidewaysRl, SidewaysLr}
use Rattle.wm_modes.specs.declared.rects.FlowRect.{FlowRect}
use Rattle.wm_modes.specs.declared.rects.Rect.{Rect}
use Rattle.fragment_types.specs.Fragment.{Kind, block, line, span, run, measure, Pieces, none, piece}
use Rattle.wm_modes.specs.Mode.{is_horizontal}
use Rattle.wm_units.specs.View.{IsView}
use Rattle.wm_units.specs.declared.view.View.{View}
use Rattle.place_map.specs.Frame.{line_mode, of_view, page_by, page_of, root_direction, root_mode}
use Rattle.place_map.specs.Near.{AreNear, IsNearKind, IsNearPart}
use Rattle.place_map.specs.Placing.{place_parts, placed}
use Rattle.rel_shift.specs.Laws.{ArePlacesWithin}
use Rattle.session.specs.Spread.{SpreadIsNear, reach_of}
use Rattle.line_place.specs.Spread.{spread, stretch}

-- ---- one rectangle

along_near : (dir : Direction) (whole start extent : ℤ) → unsigned_abs (along_line dir whole start extent) ≤ unsigned_abs whole + unsigned_abs start + unsigned_abs extent
along_near Ltr whole start extent = omega arith
along_near Rtl whole start extent = omega (arith, ints)

end_near : (whole start extent : ℤ) → unsigned_abs (from_other_end whole start extent) ≤ unsigned_abs whole + unsigned_abs start + unsigned_abs extent
end_near whole start extent = omega (arith, ints)

both_near : (dir : Direction) (whole start extent : ℤ) → unsigned_abs (from_other_end whole (along_line dir whole start extent) extent) ≤ unsigned_abs whole + unsigned_abs start + unsigned_abs extent
both_near Ltr whole start extent = omega (arith, ints)
both_near Rtl whole start extent = omega (arith, ints)

sum_near : (a b : ℤ) → unsigned_abs (a +ℤ b) ≤ unsigned_abs a + unsigned_abs b
sum_near a b = omega (arith, ints)

-- a rectangle takes what stands in it no further than its area and itself do
mapped : (mode : WritingMode) (dir : Direction) (area : Rect) (rect : FlowRect) → reach_of (map_of mode dir area rect) ≤ reach_of area + stretch rect
mapped HorizontalTb dir area rect =
    let x = sum_near area.x (along_line dir area.w rect.i rect.inline) in
    let y = sum_near area.y rect.b in
    let a = along_near dir area.w rect.i rect.inline in
    omega (arith, x, y, a)
mapped VerticalRl dir area rect =
    let x = sum_near area.x (from_other_end area.w rect.b rect.block) in
    let y = sum_near area.y (along_line dir area.h rect.i rect.inline) in
    let a = along_near dir area.h rect.i rect.inline in
    let e = end_near area.w rect.b rect.block in
    omega (arith, x, y, a, e)
mapped VerticalLr dir area rect =
    let x = sum_near area.x rect.b in
    let y = sum_near area.y (along_line dir area.h rect.i rect.inline) in
    let a = along_near dir area.h rect.i rect.inline in
    omega (arith, x, y, a)
mapped SidewaysRl dir area rect =
    let x = sum_near area.x (from_other_end area.w rect.b rect.block) in
    let y = sum_near area.y (along_line dir area.h rect.i rect.inline) in
    let a = along_near dir area.h rect.i rect.inline in
    let e = end_near area.w rect.b rect.block in
    omega (arith, x, y, a, e)
mapped SidewaysLr dir area rect =
    let x = sum_near area.x rect.b in
    let y = sum_near area.y (from_other_end area.h (along_line dir area.h rect.i rect.inline) rect.inline) in
    let a = both_near dir area.h rect.i rect.inline in
    omega (arith, x, y, a)

near_area : (area : Rect) (most : ℕ) → reach_of area ≤ most → most ≤ 2 ^ 60 → IsNear area
near_area area most le few = record { x = omega (arith, le, few); y = omega (arith, le, few); w = omega (arith, le, few); h = omega (arith, le, few) }

near_rect : (rect : FlowRect) (most : ℕ) → stretch rect ≤ most → most ≤ 2 ^ 60 → IsNearFlow rect
near_rect rect most le few = record { i = omega (arith, le, few); b = omega (arith, le, few); inline = omega (arith, le, few); block = omega (arith, le, few) }

-- ---- trees

-- a fragment that isn't stretched too far is near, in the flow and on the page
near_part : (mode : WritingMode) (dir : Direction) (area : Rect) (rect : FlowRect) (kind : Kind) → reach_of area + stretch rect ≤ 2 ^ 60 → IsNearKind kind
    → IsNearPart (record { mode = mode; dir = dir; area = area }) rect kind
near_part mode dir area rect kind few content =
    let page = mapped mode dir area rect in
    record {
      here = near_area area (2 ^ 60) (omega (arith, few)) (omega arith);
      flow = near_rect rect (2 ^ 60) (omega (arith, few)) (omega arith);
      page = near_area (map_of mode dir area rect) (2 ^ 60) (omega (arith, few, page)) (omega arith);
      content = content;
    }

pub spread_is_near : SpreadIsNear
spread_is_near mode dir area none few = tt
spread_is_near mode dir area (piece name rect (block mode_ dir_ content definite start end_ through) inner next) few =
    let page = mapped mode dir area rect in
    let content_area = mapped mode dir (map_of mode dir area rect) content in (
      near_part mode dir area rect (block mode_ dir_ content definite start end_ through) (omega (arith, few)) (near_rect content (2 ^ 60) (omega (arith, few)) (omega arith)),
      spread_is_near mode_ dir_ (map_of mode dir (map_of mode dir area rect) content) inner (omega (arith, few, page, content_area)),
      spread_is_near mode dir area next (omega (arith, few)),
    )
spread_is_near mode dir area (piece name rect (line index base mode_ baseline) inner next) few =
    let page = mapped mode dir area rect in (
      near_part mode dir area rect (line index base mode_ baseline) (omega (arith, few)) tt,
      spread_is_near (line_mode mode_) Ltr (map_of mode dir area rect) inner (omega (arith, few, page)),
      spread_is_near mode dir area next (omega (arith, few)),
    )
spread_is_near mode dir area (piece name rect span inner next) few = (
  near_part mode dir area rect span (omega (arith, few)) tt,
  spread_is_near mode dir area inner (omega (arith, few)),
  spread_is_near mode dir area next (omega (arith, few)),
)
spread_is_near mode dir area (piece name rect (run form level natural units) inner next) few = (
  near_part mode dir area rect (run form level natural units) (omega (arith, few)) tt,
  spread_is_near mode dir area inner (omega (arith, few)),
  spread_is_near mode dir area next (omega (arith, few)),
)
spread_is_near mode dir area (piece name rect (measure least most) inner next) few = (
  near_part mode dir area rect (measure least most) (omega (arith, few)) tt,
  spread_is_near mode dir area inner (omega (arith, few)),
  spread_is_near mode dir area next (omega (arith, few)),
)

-- ---- places on the page

-- no fragment stands further out than it reaches
placed_within : (mode : WritingMode) (dir : Direction) (area : Rect) (pieces : Pieces) (most : ℕ) → reach_of area + spread pieces ≤ most → ArePlacesWithin most (placed (record { mode = mode; dir = dir; area = area }) pieces)
placed_within mode dir area none most few = tt
placed_within mode dir area (piece name rect (block mode_ dir_ content definite start end_ through) inner next) most few =
    let page = mapped mode dir area rect in
    let content_area = mapped mode dir (map_of mode dir area rect) content in (
      omega (arith, few, page),
      omega (arith, few, page),
      placed_within mode_ dir_ (map_of mode dir (map_of mode dir area rect) content) inner most (omega (arith, few, page, content_area)),
      placed_within mode dir area next most (omega (arith, few)),
    )
placed_within mode dir area (piece name rect (line index base mode_ baseline) inner next) most few =
    let page = mapped mode dir area rect in (
      omega (arith, few, page),
      omega (arith, few, page),
      placed_within (line_mode mode_) Ltr (map_of mode dir area rect) inner most (omega (arith, few, page)),
      placed_within mode dir area next most (omega (arith, few)),
    )
placed_within mode dir area (piece name rect span inner next) most few =
    let page = mapped mode dir area rect in (
      omega (arith, few, page),
      omega (arith, few, page),
      placed_within mode dir area inner most (omega (arith, few)),
      placed_within mode dir area next most (omega (arith, few)),
    )
placed_within mode dir area (piece name rect (run form level natural units) inner next) most few =
    let page = mapped mode dir area rect in (
      omega (arith, few, page),
      omega (arith, few, page),
      placed_within mode dir area inner most (omega (arith, few)),
      placed_within mode dir area next most (omega (arith, few)),
    )
placed_within mode dir area (piece name rect (measure least most_) inner next) most few =
    let page = mapped mode dir area rect in (
      omega (arith, few, page),
      omega (arith, few, page),
      placed_within mode dir area inner most (omega (arith, few)),
      placed_within mode dir area next most (omega (arith, few)),
    )

-- ---- a page

page_reach : (horizontal : Bool) (view : View) → IsView view → reach_of (page_by horizontal view) ≤ 2 ^ 32
page_reach true view is = let a = is.inline_low in let b = is.inline_high in let c = is.block_low in let d = is.block_high in omega (arith, ints)
page_reach false view is = let a = is.inline_low in let b = is.inline_high in let c = is.block_low in let d = is.block_high in omega (arith, ints)

pub view_near : SpreadIsNear → (view : View) (kind : Kind) (pieces : Pieces) → IsView view → spread pieces ≤ 2 ^ 60 - 2 ^ 50 + 2 ^ 37 → AreNear (of_view view kind) pieces
view_near law view kind pieces is few =
    let page = page_reach (is_horizontal (root_mode kind)) view is in law (root_mode kind) (root_direction kind) (page_of view (root_mode kind)) pieces (omega (arith, page, few))

pub page_within : (view : View) (pieces : Pieces) → IsView view → spread pieces ≤ 2 ^ 60 - 2 ^ 50 + 2 ^ 37 → ArePlacesWithin (2 ^ 60 - 2 ^ 49) (place_parts view pieces)
page_within view none is few = tt
page_within view (piece name rect kind inner next) is few =
    let page = page_reach (is_horizontal (root_mode kind)) view is in
    placed_within (root_mode kind) (root_direction kind) (page_of view (root_mode kind)) (piece name rect kind inner next) (2 ^ 60 - 2 ^ 49) (omega (arith, page, few))
