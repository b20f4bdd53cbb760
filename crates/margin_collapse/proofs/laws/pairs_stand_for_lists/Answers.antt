use Rattle.margin_collapse.proofs.Extremes.{two_are_pair}
use Rattle.margin_collapse.proofs.laws.pairs_stand_for_lists.Goals as goal

pub returns : goal.returns
returns c = two_are_pair
