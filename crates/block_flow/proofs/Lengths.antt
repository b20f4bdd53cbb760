-- Lengths without their signs, and the code's 64 bits, which hold them.
use Rattle.std.proofs.Common.{arith, ◌+◌, ◌≤◌, ℤ, unsigned_abs}
use Rattle.std.specs.Int.{int_max, int_min}
use Rattle.std.proofs.lemmas.Int.{ints, clamps}

pub abs_max : (a b : ℤ) → unsigned_abs (int_max a b) ≤ unsigned_abs a + unsigned_abs b
abs_max a b = omega (arith, ints, clamps)

pub abs_min : (a b : ℤ) → unsigned_abs (int_min a b) ≤ unsigned_abs a + unsigned_abs b
abs_min a b = omega (arith, ints, clamps)
