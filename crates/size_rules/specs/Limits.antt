-- A size within its minimum and maximum (CSS 2, 10.4 and 10.7), and the size of a box that is as large as its
-- contents and the place for it ask (CSS 2, 10.3.5).
use Rattle.std.specs.Prelude.{ℤ, Option, Some, None}
use Rattle.std.specs.Int.{int_max, int_min}
use Rattle.wm_units.specs.Numbers.{cap_size}

-- not above the maximum, where there is one
abbrev pub at_most : Option ℤ → ℤ → ℤ
at_most None size = size
at_most (Some max) size = int_min size max

-- a minimum above the maximum wins
abbrev pub held : (size min : ℤ) → (max : Option ℤ) → ℤ
held size min max = int_max min (at_most max size)

-- a used size, which is held too within 0 and the greatest length
abbrev pub used_size : (size min : ℤ) → (max : Option ℤ) → ℤ
used_size size min max = cap_size (held size min max)

-- what is available, but not less than the least size of the contents, and not more than the greatest
abbrev pub fit : (min max available : ℤ) → ℤ
fit min max available = int_min (int_max min available) max
