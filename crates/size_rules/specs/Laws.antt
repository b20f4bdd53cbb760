-- What the inline equation says. CSS 2, 10.3.3.
use Rattle.std.specs.Prelude.{◌≡◌, ℤ, ◌+ℤ◌, ◌-ℤ◌, Option, None}
use Rattle.size_rules.specs.Equation.{equation, or_zero, rest}
use Rattle.size_rules.specs.Limits.{used_size}

-- margins, size, borders and paddings come to what is available, whatever is given
abbrev pub Fills : Type 0
Fills = (available edges : ℤ) (size : Option ℤ) (min : ℤ) (max : Option ℤ) (start finish : Option ℤ)
    → (equation available edges size min max start finish).start
    +ℤ (equation available edges size min max start finish).size
    +ℤ (equation available edges size min max start finish).end
    +ℤ edges
    ≡ available

-- a box of auto size whose limits don't change it has its margins as they are given, auto ones as 0
abbrev pub Keeps : Type 0
Keeps = (available edges : ℤ) (min : ℤ) (max : Option ℤ) (start finish : Option ℤ)
    → used_size (rest (available -ℤ edges) start finish) min max ≡ rest (available -ℤ edges) start finish
    → equation available edges None min max start finish
    ≡ record { start = or_zero start; size = rest (available -ℤ edges) start finish; end = or_zero finish }
