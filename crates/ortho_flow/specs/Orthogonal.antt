-- Boxes whose inline axis is their containing block's block axis. CSS Writing Modes 4, 7.3.
use Rattle.std.specs.Prelude.{ℕ, ℤ, pos, ◌+ℤ◌, ◌-ℤ◌, Option, Some, None, unwrap_or, unsigned_abs}
use Rattle.std.specs.Int.{int_max}

-- the place for such a box on its inline axis: the containing block's block size where that is definite, else
-- the view's size on that axis, less the box's own margins, borders and paddings there, but not below 0
abbrev pub available : (containing : Option ℤ) → (view edges : ℤ) → ℤ
available containing view edges = int_max (pos 0) (unwrap_or containing view -ℤ edges)

-- what such a box asks of its container's inline axis: its margin box there, which its block size makes
abbrev pub contribution : (block edges margins : ℤ) → ℤ
contribution block edges margins = block +ℤ edges +ℤ margins

-- the length of a size that may be indefinite, without its sign
abbrev pub length_of : Option ℤ → ℕ
length_of None = 0
length_of (Some length) = unsigned_abs length
