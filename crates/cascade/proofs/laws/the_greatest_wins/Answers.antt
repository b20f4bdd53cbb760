use Rattle.cascade.proofs.GreatestLaws.{found_is_greatest, none_is_found, greatest_is_found}
use Rattle.cascade.proofs.laws.the_greatest_wins.Goals as goal

pub returns : goal.returns
returns c = record { one = found_is_greatest; none = none_is_found; some = greatest_is_found }
