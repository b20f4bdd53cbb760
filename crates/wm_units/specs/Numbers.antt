-- Lengths as whole numbers of 1/64 px, here without bound. A number of a style sheet comes as a whole
-- number of hundredths. CSS 2, 4.3.2 (lengths), 4.3.3 (percentages).
use Rattle.std.specs.Prelude.{suc, ◌+◌, ◌/◌, ◌^◌, ℤ, pos, negsuc, ◌*ℤ◌, neg_ℤ, int_div, ◌≤◌, unsigned_abs}
use Rattle.std.specs.Int.{int_min, int_max, int_div_euclid}

-- hundredths that a style sheet can say: seven digits before the point and two after it
abbrev pub IsSayable : ℤ → Type 0
IsSayable hundredths = unsigned_abs hundredths ≤ 999999999

-- the whole number nearest to n hundredths; of two that are as near, the one away from 0
abbrev pub nearest_hundredth : ℤ → ℤ
nearest_hundredth (pos n) = pos ((n + 50) / 100)
nearest_hundredth (negsuc n) = neg_ℤ (pos ((suc n + 50) / 100))

-- hundredths of a pixel, in units
abbrev pub fixed : ℤ → ℤ
fixed hundredths = nearest_hundredth (hundredths *ℤ pos 64)

-- hundredths of a base, as of a font size
abbrev pub scaled : ℤ → ℤ → ℤ
scaled hundredths base = nearest_hundredth (hundredths *ℤ base)

-- a percentage of a base, given in hundredths of a percent, cut towards 0
abbrev pub percent : ℤ → ℤ → ℤ
percent hundredths base = int_div (hundredths *ℤ base) (pos 10000)

-- the greatest length
abbrev pub greatest_length : ℤ
greatest_length = pos (2 ^ 32)

-- a resolved length is held within the greatest length on both sides of 0
abbrev pub cap : ℤ → ℤ
cap length = int_max (neg_ℤ greatest_length) (int_min length greatest_length)

-- a used size is held within 0 and the greatest length
abbrev pub cap_size : ℤ → ℤ
cap_size size = int_max (pos 0) (int_min size greatest_length)

-- half of a length, cut downwards
abbrev pub half : ℤ → ℤ
half length = int_div_euclid length (pos 2)
