-- Lengths without their signs, and the code's 64 bits, which hold them.
use Rattle.std.proofs.Common.{◌≡◌, arith, ◌+◌, ◌^◌, ◌≤◌, ℤ, ◌+ℤ◌, ◌-ℤ◌, unsigned_abs, to_z, of_z, w64, FitsSigned}
use Rattle.std.proofs.lemmas.Int.{ints}

pub fits : (z : ℤ) → unsigned_abs z ≤ 2 ^ 62 → FitsSigned w64 z
fits z h = omega (arith, ints)

pub held : (z : ℤ) → unsigned_abs z ≤ 2 ^ 62 → to_z w64 (of_z w64 z) ≡ z
held z h = omega (arith, ints)

pub abs_add : (a b : ℤ) → unsigned_abs (a +ℤ b) ≤ unsigned_abs a + unsigned_abs b
abs_add a b = omega (arith, ints)

pub abs_sub : (a b : ℤ) → unsigned_abs (a -ℤ b) ≤ unsigned_abs a + unsigned_abs b
abs_sub a b = omega (arith, ints)

-- sums and differences as the code writes them
pub sum_held : (a b : ℤ) → unsigned_abs a ≤ 2 ^ 61 → unsigned_abs b ≤ 2 ^ 61 → to_z w64 (of_z w64 (to_z w64 (of_z w64 a) +ℤ to_z w64 (of_z w64 b))) ≡ a +ℤ b
sum_held a b h k = omega (arith, ints)

pub sum_fits : (a b : ℤ) → unsigned_abs a ≤ 2 ^ 61 → unsigned_abs b ≤ 2 ^ 61 → FitsSigned w64 (to_z w64 (of_z w64 a) +ℤ to_z w64 (of_z w64 b))
sum_fits a b h k = omega (arith, ints)

pub gap_held : (a b : ℤ) → unsigned_abs a ≤ 2 ^ 61 → unsigned_abs b ≤ 2 ^ 61 → to_z w64 (of_z w64 (to_z w64 (of_z w64 a) -ℤ to_z w64 (of_z w64 b))) ≡ a -ℤ b
gap_held a b h k = omega (arith, ints)

pub three_held : (a b c : ℤ) → unsigned_abs a ≤ 2 ^ 60 → unsigned_abs b ≤ 2 ^ 60 → unsigned_abs c ≤ 2 ^ 60
    → to_z w64 (of_z w64 (to_z w64 (of_z w64 a) +ℤ to_z w64 (of_z w64 (to_z w64 (of_z w64 b) +ℤ to_z w64 (of_z w64 c))))) ≡ a +ℤ (b +ℤ c)
three_held a b c h k l =
    let s = sum_held b c (omega arith) (omega arith) in
    let n = abs_add b c in
    let m = abs_add a (b +ℤ c) in
    rw (s, held a (omega arith)) (held (a +ℤ (b +ℤ c)) (omega arith))

-- two differences added up
pub gaps_held : (a b c d : ℤ) → unsigned_abs a ≤ 2 ^ 60 → unsigned_abs b ≤ 2 ^ 60 → unsigned_abs c ≤ 2 ^ 60 → unsigned_abs d ≤ 2 ^ 60
    → to_z w64 (of_z w64 (to_z w64 (of_z w64 (to_z w64 (of_z w64 a) -ℤ to_z w64 (of_z w64 b))) +ℤ to_z w64 (of_z w64 (to_z w64 (of_z w64 c) -ℤ to_z w64 (of_z w64 d))))) ≡ (a -ℤ b) +ℤ (c -ℤ d)
gaps_held a b c d h k l m =
    let s = gap_held a b (omega arith) (omega arith) in
    let t = gap_held c d (omega arith) (omega arith) in
    let u = abs_sub a b in
    let v = abs_sub c d in
    rw (s, t) (held ((a -ℤ b) +ℤ (c -ℤ d)) (omega (arith, ints)))

pub gaps_fit : (a b c d : ℤ) → unsigned_abs a ≤ 2 ^ 60 → unsigned_abs b ≤ 2 ^ 60 → unsigned_abs c ≤ 2 ^ 60 → unsigned_abs d ≤ 2 ^ 60
    → FitsSigned w64 (to_z w64 (of_z w64 (to_z w64 (of_z w64 a) -ℤ to_z w64 (of_z w64 b))) +ℤ to_z w64 (of_z w64 (to_z w64 (of_z w64 c) -ℤ to_z w64 (of_z w64 d))))
gaps_fit a b c d h k l m =
    let s = gap_held a b (omega arith) (omega arith) in
    let t = gap_held c d (omega arith) (omega arith) in
    let u = abs_sub a b in
    let v = abs_sub c d in
    rw (s, t) (fits ((a -ℤ b) +ℤ (c -ℤ d)) (omega (arith, ints)))

-- two sums added up, and a length before them
pub four_held : (a b c d : ℤ) → unsigned_abs a ≤ 2 ^ 60 → unsigned_abs b ≤ 2 ^ 60 → unsigned_abs c ≤ 2 ^ 60 → unsigned_abs d ≤ 2 ^ 60
    → to_z w64 (of_z w64 (to_z w64 (of_z w64 (to_z w64 (of_z w64 a) +ℤ to_z w64 (of_z w64 b))) +ℤ to_z w64 (of_z w64 (to_z w64 (of_z w64 c) +ℤ to_z w64 (of_z w64 d))))) ≡ (a +ℤ b) +ℤ (c +ℤ d)
four_held a b c d h k l m =
    let s = sum_held a b (omega arith) (omega arith) in
    let t = sum_held c d (omega arith) (omega arith) in
    let u = abs_add a b in
    let v = abs_add c d in
    rw (s, t) (held ((a +ℤ b) +ℤ (c +ℤ d)) (omega (arith, ints)))

pub four_fit : (a b c d : ℤ) → unsigned_abs a ≤ 2 ^ 60 → unsigned_abs b ≤ 2 ^ 60 → unsigned_abs c ≤ 2 ^ 60 → unsigned_abs d ≤ 2 ^ 60
    → FitsSigned w64 (to_z w64 (of_z w64 (to_z w64 (of_z w64 a) +ℤ to_z w64 (of_z w64 b))) +ℤ to_z w64 (of_z w64 (to_z w64 (of_z w64 c) +ℤ to_z w64 (of_z w64 d))))
four_fit a b c d h k l m =
    let s = sum_held a b (omega arith) (omega arith) in
    let t = sum_held c d (omega arith) (omega arith) in
    let u = abs_add a b in
    let v = abs_add c d in
    rw (s, t) (fits ((a +ℤ b) +ℤ (c +ℤ d)) (omega (arith, ints)))

pub five_held : (w a b c d : ℤ) → unsigned_abs w + (unsigned_abs a + unsigned_abs b) + (unsigned_abs c + unsigned_abs d) ≤ 2 ^ 60
    → to_z w64 (of_z w64 (to_z w64 (of_z w64 w) +ℤ to_z w64 (of_z w64 (to_z w64 (of_z w64 (to_z w64 (of_z w64 a) +ℤ to_z w64 (of_z w64 b))) +ℤ to_z w64 (of_z w64 (to_z w64 (of_z w64 c) +ℤ to_z w64 (of_z w64 d)))))))
    ≡ w +ℤ ((a +ℤ b) +ℤ (c +ℤ d))
five_held w a b c d h =
    let s = four_held a b c d (omega arith) (omega arith) (omega arith) (omega arith) in
    let t = held w (omega arith) in
    let u = abs_add a b in
    let v = abs_add c d in
    let x = abs_add (a +ℤ b) (c +ℤ d) in
    let y = abs_add w ((a +ℤ b) +ℤ (c +ℤ d)) in
    rw (s, t) (held (w +ℤ ((a +ℤ b) +ℤ (c +ℤ d))) (omega arith))

pub five_fit : (w a b c d : ℤ) → unsigned_abs w + (unsigned_abs a + unsigned_abs b) + (unsigned_abs c + unsigned_abs d) ≤ 2 ^ 60
    → FitsSigned w64 (to_z w64 (of_z w64 w) +ℤ to_z w64 (of_z w64 (to_z w64 (of_z w64 (to_z w64 (of_z w64 a) +ℤ to_z w64 (of_z w64 b))) +ℤ to_z w64 (of_z w64 (to_z w64 (of_z w64 c) +ℤ to_z w64 (of_z w64 d))))))
five_fit w a b c d h =
    let s = four_held a b c d (omega arith) (omega arith) (omega arith) (omega arith) in
    let t = held w (omega arith) in
    let u = abs_add a b in
    let v = abs_add c d in
    let x = abs_add (a +ℤ b) (c +ℤ d) in
    let y = abs_add w ((a +ℤ b) +ℤ (c +ℤ d)) in
    rw (s, t) (fits (w +ℤ ((a +ℤ b) +ℤ (c +ℤ d))) (omega arith))

pub abs_five : (w a b c d : ℤ) → unsigned_abs (w +ℤ ((a +ℤ b) +ℤ (c +ℤ d))) ≤ unsigned_abs w + (unsigned_abs a + unsigned_abs b) + (unsigned_abs c + unsigned_abs d)
abs_five w a b c d =
    let u = abs_add a b in
    let v = abs_add c d in
    let x = abs_add (a +ℤ b) (c +ℤ d) in
    let y = abs_add w ((a +ℤ b) +ℤ (c +ℤ d)) in
    omega arith
