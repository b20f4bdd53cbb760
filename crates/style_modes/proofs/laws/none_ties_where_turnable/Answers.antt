use Rattle.style_modes.proofs.TyingLaws.{none_ties_where_turnable}
use Rattle.style_modes.proofs.laws.none_ties_where_turnable.Goals as goal

pub returns : goal.returns
returns c = none_ties_where_turnable
