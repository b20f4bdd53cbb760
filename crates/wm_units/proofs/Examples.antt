-- The numbers of some inputs, computed. `negsuc n` is -(n + 1).
use Rattle.std.specs.Prelude.{◌≡◌, refl, pos, negsuc}
use Rattle.wm_units.specs.Numbers.{fixed, scaled, percent, cap, cap_size, half}

-- 1.5 px
whole_units : fixed (pos 150) ≡ pos 96
whole_units = refl

-- 0.33 px is 21.12 units, 0.12 px is 7.68 units
rounded_down : fixed (pos 33) ≡ pos 21
rounded_down = refl

rounded_up : fixed (pos 12) ≡ pos 8
rounded_up = refl

-- -0.33 px
below_zero : fixed (negsuc 32) ≡ negsuc 20
below_zero = refl

-- 9,999,999.99 px
greatest_number : fixed (pos 999999999) ≡ pos 639999999
greatest_number = refl

-- 1.5 em at 16 px
em : scaled (pos 150) (pos 1024) ≡ pos 1536
em = refl

-- half a unit, and half a unit below 0
tie : scaled (pos 50) (pos 1) ≡ pos 1
tie = refl

tie_below_zero : scaled (negsuc 49) (pos 1) ≡ negsuc 0
tie_below_zero = refl

-- 50% and -50% of 3 units
cut : percent (pos 5000) (pos 3) ≡ pos 1
cut = refl

cut_below_zero : percent (negsuc 4999) (pos 3) ≡ negsuc 0
cut_below_zero = refl

held : cap (negsuc 4294967296) ≡ negsuc 4294967295
held = refl

no_size_below_zero : cap_size (negsuc 0) ≡ pos 0
no_size_below_zero = refl

-- half of -5 units
half_below_zero : half (negsuc 4) ≡ negsuc 2
half_below_zero = refl
