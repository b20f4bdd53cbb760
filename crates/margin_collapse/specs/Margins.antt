-- Adjoining margins collapse to one: the greatest positive one and the least negative one are added.
-- CSS 2, 8.3.1.
use Rattle.std.specs.Prelude.{List, [], ◌∷◌, ℤ, pos, ◌+ℤ◌}
use Rattle.std.specs.Int.{int_max, int_min}

-- the greatest positive margin, or 0
abbrev pub greatest : List ℤ → ℤ
greatest [] = pos 0
greatest (margin ∷ margins) = int_max margin (greatest margins)

-- the least negative margin, or 0
abbrev pub least : List ℤ → ℤ
least [] = pos 0
least (margin ∷ margins) = int_min margin (least margins)

-- the one margin to which these collapse
abbrev pub collapsed : List ℤ → ℤ
collapsed margins = greatest margins +ℤ least margins
