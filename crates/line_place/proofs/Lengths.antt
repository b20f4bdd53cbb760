-- Lengths without their signs, and the code's 64 bits, which hold them.
use Rattle.std.proofs.Common.{◌≡◌, arith, ◌+◌, ◌^◌, ◌≤◌, ℤ, pos, negsuc, ◌+ℤ◌, ◌-ℤ◌, unsigned_abs, to_z, of_z, w64, FitsSigned}
use Rattle.std.proofs.lemmas.Int.{ints}
use Rattle.wm_units.specs.Numbers.{half}

pub half_near : (z : ℤ) → unsigned_abs (half z) ≤ unsigned_abs z
half_near (pos n) = omega arith
half_near (negsuc n) = omega arith

pub fits : (z : ℤ) → unsigned_abs z ≤ 2 ^ 62 → FitsSigned w64 z
fits z h = omega (arith, ints)

pub held : (z : ℤ) → unsigned_abs z ≤ 2 ^ 62 → to_z w64 (of_z w64 z) ≡ z
held z h = omega (arith, ints)

-- a sum and a difference of two lengths as the code has them
pub sum_held : (a b : ℤ) → unsigned_abs a ≤ 2 ^ 61 → unsigned_abs b ≤ 2 ^ 61 → to_z w64 (of_z w64 (to_z w64 (of_z w64 a) +ℤ to_z w64 (of_z w64 b))) ≡ a +ℤ b
sum_held a b h k = omega (arith, ints)

pub difference_held : (a b : ℤ) → unsigned_abs a ≤ 2 ^ 61 → unsigned_abs b ≤ 2 ^ 61 → to_z w64 (of_z w64 (to_z w64 (of_z w64 a) -ℤ to_z w64 (of_z w64 b))) ≡ a -ℤ b
difference_held a b h k = omega (arith, ints)

pub far_difference_held : (a b : ℤ) → unsigned_abs a ≤ 2 ^ 61 + 2 ^ 60 → unsigned_abs b ≤ 2 ^ 60 → to_z w64 (of_z w64 (to_z w64 (of_z w64 a) -ℤ to_z w64 (of_z w64 b))) ≡ a -ℤ b
far_difference_held a b h k = omega (arith, ints)
