-- What the numbers mean, in words that are not those of the code.
use Rattle.std.specs.Prelude.{◌≡◌, ◌+◌, ◌*◌, ◌<◌, ◌≤◌, ℤ, pos, ◌+ℤ◌, ◌-ℤ◌, ◌*ℤ◌, neg_ℤ, unsigned_abs, ◌≤ℤ◌, ◌<ℤ◌}
use Rattle.wm_units.specs.Numbers.{fixed, scaled, percent, greatest_length, cap, cap_size, half}

-- q is the whole number nearest to n hundredths: off by at most a half, and where it is off by just a half, it lies away from 0
pub record IsNearestHundredth (n q : ℤ) : Type 0 where
  pub near : 2 * unsigned_abs (pos 100 *ℤ q -ℤ n) ≤ 100
  pub tie : 2 * unsigned_abs (pos 100 *ℤ q -ℤ n) ≡ 100 → unsigned_abs n < 100 * unsigned_abs q

-- lengths and font-relative lengths are rounded to the nearest unit
pub record AreNearest : Type 0 where
  pub fixed : (hundredths : ℤ) → IsNearestHundredth (hundredths *ℤ pos 64) (fixed hundredths)
  pub scaled : (hundredths base : ℤ) → IsNearestHundredth (hundredths *ℤ base) (scaled hundredths base)

-- q is n ten-thousandths without their fraction: no further from 0 than they are, less than one unit nearer, and on their side of 0
pub record IsCut (n q : ℤ) : Type 0 where
  pub not_further : 10000 * unsigned_abs q ≤ unsigned_abs n
  pub less_than_one : unsigned_abs n < 10000 * (unsigned_abs q + 1)
  pub above : pos 0 ≤ℤ n → pos 0 ≤ℤ q
  pub below : n ≤ℤ pos 0 → q ≤ℤ pos 0

-- a percentage loses its fraction
abbrev pub IsPercentCut : Type 0
IsPercentCut = (hundredths base : ℤ) → IsCut (hundredths *ℤ base) (percent hundredths base)

-- held is u held between the ends: within them, u itself where u is within them, else the end that u has passed
pub record IsHeld (low high u held : ℤ) : Type 0 where
  pub above : low ≤ℤ held
  pub below : held ≤ℤ high
  pub same : low ≤ℤ u → u ≤ℤ high → held ≡ u
  pub lowest : u ≤ℤ low → held ≡ low
  pub highest : high ≤ℤ u → held ≡ high

-- lengths are held on both sides of 0, sizes from 0 on
pub record AreHeld : Type 0 where
  pub cap : (u : ℤ) → IsHeld (neg_ℤ greatest_length) greatest_length u (cap u)
  pub cap_size : (u : ℤ) → IsHeld (pos 0) greatest_length u (cap_size u)

-- twice the half is the length or one unit less, below 0 too
pub record IsHalf (length h : ℤ) : Type 0 where
  pub below : (pos 2 *ℤ h) ≤ℤ length
  pub above : length <ℤ (pos 2 *ℤ h +ℤ pos 2)

abbrev pub IsHalfCut : Type 0
IsHalfCut = (length : ℤ) → IsHalf length (half length)
