-- Rectangles of the page, measured from one of their sides. CSS Writing Modes 4, 6.1 and 6.2.
use Rattle.std.specs.Prelude.{Bool, ◌&&◌, ℤ, pos, ◌+ℤ◌, ◌-ℤ◌, int_lt, int_le}
use Rattle.wm_modes.specs.declared.rects.Rect.{Rect}
use Rattle.wm_modes.specs.declared.sides.Side.{Side}
use Rattle.wm_modes.specs.declared.sides.Side.TheVariants.{Top, Right, Bottom, Left}
use Rattle.hit_caret.specs.declared.rects.Point.{Point}

-- a place along an axis, from a start on over this extent
abbrev pub is_within : (start extent place : ℤ) → Bool
is_within start extent place = int_le start place && int_lt place (start +ℤ extent)

-- the left and the top edge belong to a rectangle, the right and the bottom edge don't
abbrev pub holds : Rect → Point → Bool
holds r p = is_within r.x r.w p.x && is_within r.y r.h p.y

-- how far it reaches from a side to the opposite one
abbrev pub extent_from : Side → Rect → ℤ
extent_from Left r = r.w
extent_from Right r = r.w
extent_from Top r = r.h
extent_from Bottom r = r.h

-- the part that begins at this distance from a side and has this extent
abbrev pub part_from : Side → Rect → (distance extent : ℤ) → Rect
part_from Left r distance extent = record { x = r.x +ℤ distance; y = r.y; w = extent; h = r.h }
part_from Right r distance extent = record { x = r.x +ℤ r.w -ℤ distance -ℤ extent; y = r.y; w = extent; h = r.h }
part_from Top r distance extent = record { x = r.x; y = r.y +ℤ distance; w = r.w; h = extent }
part_from Bottom r distance extent = record { x = r.x; y = r.y +ℤ r.h -ℤ distance -ℤ extent; w = r.w; h = extent }

-- its edge at a side: a rectangle without extent there
abbrev pub edge : Side → Rect → Rect
edge Left r = record { x = r.x; y = r.y; w = pos 0; h = r.h }
edge Right r = record { x = r.x +ℤ r.w; y = r.y; w = pos 0; h = r.h }
edge Top r = record { x = r.x; y = r.y; w = r.w; h = pos 0 }
edge Bottom r = record { x = r.x; y = r.y +ℤ r.h; w = r.w; h = pos 0 }

-- how many points lie between a point and a side
abbrev pub distance_from : Side → Rect → Point → ℤ
distance_from Left r p = p.x -ℤ r.x
distance_from Right r p = r.x +ℤ r.w -ℤ pos 1 -ℤ p.x
distance_from Top r p = p.y -ℤ r.y
distance_from Bottom r p = r.y +ℤ r.h -ℤ pos 1 -ℤ p.y

-- a point, moved along one axis to where it touches a side from inside
abbrev pub touching : Side → Rect → Point → Point
touching Left r p = record { x = r.x; y = p.y }
touching Right r p = record { x = r.x +ℤ r.w -ℤ pos 1; y = p.y }
touching Top r p = record { x = p.x; y = r.y }
touching Bottom r p = record { x = p.x; y = r.y +ℤ r.h -ℤ pos 1 }
