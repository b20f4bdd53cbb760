use Rattle.margin_collapse.proofs.Extremes.{greatest_is, least_is}
use Rattle.margin_collapse.proofs.laws.extremes_are_members.Goals as goal

pub returns : goal.returns
returns c = record { greatest = greatest_is; least = least_is }
