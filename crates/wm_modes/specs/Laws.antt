-- What holds of the maps and the sides in every mode and direction.
use Rattle.std.specs.Prelude.{◌≡◌, ℤ, ◌+ℤ◌, ◌-ℤ◌}
use Rattle.wm_modes.specs.Sides.{side_of}
use Rattle.wm_modes.specs.Map.{map_of, unmap_of, inside}
use Rattle.wm_modes.specs.declared.mode.WritingMode.{WritingMode}
use Rattle.wm_modes.specs.declared.mode.Direction.{Direction}
use Rattle.wm_modes.specs.declared.rects.FlowRect.{FlowRect}
use Rattle.wm_modes.specs.declared.rects.Rect.{Rect}
use Rattle.wm_modes.specs.declared.sides.Side.{Side}
use Rattle.wm_modes.specs.declared.sides.Side.TheVariants.{Top, Right, Bottom, Left}
use Rattle.wm_modes.specs.declared.sides.FlowSide.TheVariants.{BlockStart, InlineStart}

-- each map undoes the other
pub record AreInverse : Type 0 where
  pub back : (mode : WritingMode) (dir : Direction) (area : Rect) (r : FlowRect) → unmap_of mode dir area (map_of mode dir area r) ≡ r
  pub forth : (mode : WritingMode) (dir : Direction) (area : Rect) (q : Rect) → map_of mode dir area (unmap_of mode dir area q) ≡ q

-- how far inside the area, from the area's edge on a side, the rectangle's edge on that side is
abbrev pub inset : Side → Rect → Rect → ℤ
inset Top area q = q.y -ℤ area.y
inset Left area q = q.x -ℤ area.x
inset Right area q = (area.x +ℤ area.w) -ℤ (q.x +ℤ q.w)
inset Bottom area q = (area.y +ℤ area.h) -ℤ (q.y +ℤ q.h)

-- a rectangle stands as far from the area's inline-start and block-start sides as its flow place says
pub record StandsBySides : Type 0 where
  pub inline_start : (mode : WritingMode) (dir : Direction) (area : Rect) (r : FlowRect) → inset (side_of mode dir InlineStart) area (map_of mode dir area r) ≡ r.i
  pub block_start : (mode : WritingMode) (dir : Direction) (area : Rect) (r : FlowRect) → inset (side_of mode dir BlockStart) area (map_of mode dir area r) ≡ r.b

-- in a containing block that is mapped by the same mode and direction, a rectangle stands where their places add up to
abbrev pub AddUp : Type 0
AddUp = (mode : WritingMode) (dir : Direction) (area : Rect) (containing r : FlowRect)
    → map_of mode dir (map_of mode dir area containing) r ≡ map_of mode dir area (inside containing r)
