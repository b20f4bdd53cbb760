-- Rectangles of cells that no sum takes past 64 bits.
use Rattle.std.specs.Prelude.{◌≤◌, ◌*◌, ◌^◌, ℤ, pos, ◌≤ℤ◌, unsigned_abs}
use Rattle.wm_modes.specs.declared.rects.Rect.{Rect}

abbrev pub IsNearNumber : ℤ → Type 0
IsNearNumber n = unsigned_abs n ≤ 2 ^ 60

-- a distance from line-left within a run whose rectangle is near
pub record IsDistance (distance : ℤ) : Type 0 where
  pub least : pos 0 ≤ℤ distance
  pub most : distance ≤ℤ pos (2 ^ 60)

-- the rectangle of a cell on a page whose rectangles are near
pub record IsNearCell (r : Rect) : Type 0 where
  pub x : unsigned_abs r.x ≤ 4 * 2 ^ 60
  pub y : unsigned_abs r.y ≤ 4 * 2 ^ 60
  pub w : IsNearNumber r.w
  pub h : IsNearNumber r.h
