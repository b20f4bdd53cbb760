-- Which rectangles of a page meet.
use Rattle.std.specs.Prelude.{◌≡◌, ℕ, zero, suc, Bool, false, ◌&&◌, ℤ, pos, negsuc, ◌+ℤ◌, ◌≤ℤ◌, int_lt}
use Rattle.wm_modes.specs.declared.rects.Rect.{Rect}
use Rattle.place_map.specs.Bound.{IsIn}
use Rattle.place_map.specs.declared.bound.Bound.{Bound}

-- an extent, 0 taken as 1
abbrev pub shown : (extent : ℤ) → ℤ
shown (pos zero) = pos 1
shown (pos (suc more)) = pos (suc more)
shown (negsuc below) = negsuc below

-- whether two stretches along an axis have a place in common, each from its start up to its end
unfoldable pub overlaps : (start extent other other_extent : ℤ) → Bool
overlaps start extent other other_extent = int_lt start (other +ℤ shown other_extent) && int_lt other (start +ℤ shown extent)

-- whether two rectangles do
abbrev pub meets : (rect other : Rect) → Bool
meets rect other = overlaps rect.x rect.w other.x other.w && overlaps rect.y rect.h other.y other.h

-- ---- what a rectangle doesn't reach

-- a stretch overlaps nothing that lies between two edges
abbrev pub OverlapsNone : (start extent first last : ℤ) → Type 0
OverlapsNone start extent first last =
    (other other_extent : ℤ) → first ≤ℤ other → (other +ℤ other_extent) ≤ℤ last → overlaps start extent other other_extent ≡ false

-- a rectangle meets no fragment that lies in a bound
abbrev pub MeetsNone : Rect → Bound → Type 0
MeetsNone rect bound = (node : ℕ) (other : Rect) → IsIn bound node other → meets rect other ≡ false
