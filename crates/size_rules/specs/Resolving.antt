-- What sizes, margins and paddings come to by a size of the containing block that may be unknown. CSS 2, 8.3, 8.4,
-- 10.2, 10.4 and 10.5.
use Rattle.std.specs.Prelude.{ℤ, pos, Option, Some, None, unwrap_or}
use Rattle.wm_units.specs.Numbers.{cap, percent}
use Rattle.style_types.specs.declared.style.Size.{Size}
use Rattle.style_types.specs.declared.style.Size.TheVariants.{Auto, Length, Percent}

-- a percentage of a size, held as a length is
abbrev pub share : (hundredths base : ℤ) → ℤ
share hundredths base = cap (percent hundredths base)

-- a size or a maximum: auto, or none, where it is so, and where it is a percentage of an unknown size
abbrev pub resolved : Size → (base : Option ℤ) → Option ℤ
resolved Auto base = None
resolved (Length length) base = Some length
resolved (Percent hundredths) None = None
resolved (Percent hundredths) (Some base) = Some (share hundredths base)

-- a minimum or a padding: 0 there
abbrev pub resolved_or_zero : Size → (base : Option ℤ) → ℤ
resolved_or_zero size base = unwrap_or (resolved size base) (pos 0)

-- a margin: auto where it is so, and 0 where it is a percentage of an unknown size
abbrev pub resolved_margin : Size → (base : Option ℤ) → Option ℤ
resolved_margin Auto base = None
resolved_margin (Length length) base = Some (resolved_or_zero (Length length) base)
resolved_margin (Percent hundredths) base = Some (resolved_or_zero (Percent hundredths) base)
