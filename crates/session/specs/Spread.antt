-- Fragments that don't spread too far are near.
use Rattle.std.specs.Prelude.{◌+◌, ◌≤◌, ◌^◌, ℕ, max, unsigned_abs}
use Rattle.wm_modes.specs.declared.mode.Direction.{Direction}
use Rattle.wm_modes.specs.declared.mode.WritingMode.{WritingMode}
use Rattle.wm_modes.specs.declared.rects.Rect.{Rect}
use Rattle.fragment_types.specs.Fragment.{Pieces}
use Rattle.line_place.specs.Spread.{spread}
use Rattle.place_map.specs.Near.{AreNear}

-- how far an area takes what stands in it
abbrev pub reach_of : Rect → ℕ
reach_of area = max (unsigned_abs area.x) (unsigned_abs area.y) + max (unsigned_abs area.w) (unsigned_abs area.h)

abbrev pub SpreadIsNear : Type 0
SpreadIsNear = (mode : WritingMode) (dir : Direction) (area : Rect) (pieces : Pieces) → reach_of area + spread pieces ≤ 2 ^ 60 → AreNear (record { mode = mode; dir = dir; area = area }) pieces
