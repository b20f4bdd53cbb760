-- How far the margins of the inline equation reach.
use Rattle.std.proofs.Common.{◌≡◌, ℕ, ◌+◌, ◌/◌, ◌≤◌, ◌^◌, refl, arith, unsigned_abs}
use Rattle.std.proofs.lemmas.Int.{ints}
use Rattle.std.specs.Prelude.{ℤ, pos, negsuc, ◌-ℤ◌, ◌≤ℤ◌, Option, Some, None}
use Rattle.wm_units.specs.Numbers.{half}
use Rattle.size_rules.specs.Equation.{rest, or_zero, start_margin, settled, length_of}
use Rattle.size_rules.specs.declared.equation.Used.{Used}

-- half of a length from 0 up is no longer, and from 0 up
halved : (n : ℤ) → pos 0 ≤ℤ n → (q : ℕ) × (half n ≡ pos q) × (q ≤ unsigned_abs n)
halved (pos n) low = (n / 2, refl, omega arith)
halved (negsuc n) low = absurd (omega (arith, ints))

-- the inline-start margin, where the size isn't below 0
start_near : (left room available edges size : ℤ) (start finish : Option ℤ) → left ≡ rest room start finish → room ≡ available -ℤ edges -ℤ size → pos 0 ≤ℤ size
    → unsigned_abs (start_margin left room start finish) ≤ unsigned_abs available + unsigned_abs edges + length_of start + length_of finish
unfolding start_margin rest or_zero length_of
start_near (negsuc less) room available edges size None finish is at low = omega (arith, ints)
start_near (negsuc less) room available edges size (Some start) finish is at low = omega (arith, ints)
start_near (pos left) room available edges size None None is at low = let h = halved room (omega (arith, ints)) in omega (arith, ints, h.1, h.2)
start_near (pos left) room available edges size None (Some finish) is at low = omega (arith, ints)
start_near (pos left) room available edges size (Some start) finish is at low = omega (arith, ints)

-- the inline-end margin
end_near : (left room available edges size : ℤ) (start finish : Option ℤ) → left ≡ rest room start finish → room ≡ available -ℤ edges -ℤ size → pos 0 ≤ℤ size → size ≤ℤ pos (2 ^ 32)
    → unsigned_abs (room -ℤ start_margin left room start finish) ≤ unsigned_abs available + unsigned_abs edges + length_of start + length_of finish + 2 ^ 32
unfolding start_margin rest or_zero length_of
end_near (negsuc less) room available edges size None finish is at low high = omega (arith, ints)
end_near (negsuc less) room available edges size (Some start) finish is at low high = omega (arith, ints)
end_near (pos left) room available edges size None None is at low high = let h = halved room (omega (arith, ints)) in omega (arith, ints, h.1, h.2)
end_near (pos left) room available edges size None (Some finish) is at low high = omega (arith, ints)
end_near (pos left) room available edges size (Some start) finish is at low high = omega (arith, ints)

-- the result as the code has it, in 64 bits
pub near : (available edges used : ℤ) (start finish : Option ℤ) (free used64 : ℤ) (r : Used) → free ≡ available -ℤ edges -ℤ used → r ≡ settled free used64 start finish
    → pos 0 ≤ℤ used → used ≤ℤ pos (2 ^ 32)
    → (unsigned_abs r.start ≤ unsigned_abs available + unsigned_abs edges + length_of start + length_of finish)
    × (unsigned_abs r.end ≤ unsigned_abs available + unsigned_abs edges + length_of start + length_of finish + 2 ^ 32)
near available edges used start finish free used64 r at is low high =
    rw is (start_near _ free available edges used start finish refl at low, end_near _ free available edges used start finish refl at low high)
