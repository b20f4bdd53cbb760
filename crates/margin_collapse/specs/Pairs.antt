-- Two numbers that stand for a whole list of adjoining margins.
use Rattle.std.specs.Prelude.{◌≡◌, List, ℤ}
use Rattle.margin_collapse.specs.Margins.{greatest, least}
use Rattle.margin_collapse.specs.declared.margins.Margins.{Margins}

-- the pair holds the greatest positive and the least negative margin of the list
pub record IsPairOf (pair : Margins) (margins : List ℤ) : Type 0 where
  pub positive : pair.positive ≡ greatest margins
  pub negative : pair.negative ≡ least margins
