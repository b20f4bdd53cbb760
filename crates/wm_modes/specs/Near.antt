-- Numbers that no sum of a map takes past 64 bits.
use Rattle.std.specs.Prelude.{◌≤◌, ◌^◌, unsigned_abs}
use Rattle.wm_modes.specs.declared.rects.FlowRect.{FlowRect}
use Rattle.wm_modes.specs.declared.rects.Rect.{Rect}

-- each number within 2^60 of 0
pub record IsNear (r : Rect) : Type 0 where
  pub x : unsigned_abs r.x ≤ 2 ^ 60
  pub y : unsigned_abs r.y ≤ 2 ^ 60
  pub w : unsigned_abs r.w ≤ 2 ^ 60
  pub h : unsigned_abs r.h ≤ 2 ^ 60

pub record IsNearFlow (r : FlowRect) : Type 0 where
  pub i : unsigned_abs r.i ≤ 2 ^ 60
  pub b : unsigned_abs r.b ≤ 2 ^ 60
  pub inline : unsigned_abs r.inline ≤ 2 ^ 60
  pub block : unsigned_abs r.block ≤ 2 ^ 60
