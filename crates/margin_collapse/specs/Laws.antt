-- What the extremes of a list of margins are, apart from how they are found, and which pairs stand for a list.
use Rattle.std.specs.Prelude.{List, [], ◌∷◌, ℤ, pos, ◌≤ℤ◌, ◌<ℤ◌}
use Rattle.std.specs.List.{All, Contains}
use Rattle.margin_collapse.specs.Margins.{greatest, least}
use Rattle.margin_collapse.specs.Pairs.{IsPairOf}
use Rattle.margin_collapse.specs.declared.margins.Margins.{Margins}

-- no margin is greater, and where x is positive it is one of them
pub record IsGreatestPositive (margins : List ℤ) (x : ℤ) : Type 0 where
  pub from_zero : pos 0 ≤ℤ x
  pub none_above : All (λ margin. margin ≤ℤ x) margins
  pub member : pos 0 <ℤ x → Contains margins x

-- no margin is less, and where x is negative it is one of them
pub record IsLeastNegative (margins : List ℤ) (x : ℤ) : Type 0 where
  pub to_zero : x ≤ℤ pos 0
  pub none_below : All (λ margin. x ≤ℤ margin) margins
  pub member : x <ℤ pos 0 → Contains margins x

-- the two members that count, in every list
pub record AreExtremes : Type 0 where
  pub greatest : (margins : List ℤ) → IsGreatestPositive margins (greatest margins)
  pub least : (margins : List ℤ) → IsLeastNegative margins (least margins)

-- each pair of a number from 0 up and a number from 0 down stands for a list, such as that of these two
abbrev pub HaveLists : Type 0
HaveLists = (pair : Margins) → pos 0 ≤ℤ pair.positive → pair.negative ≤ℤ pos 0 → IsPairOf pair (pair.positive ∷ pair.negative ∷ [])
