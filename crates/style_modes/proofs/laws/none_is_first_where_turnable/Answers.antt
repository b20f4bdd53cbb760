use Rattle.style_modes.proofs.TyingLaws.{none_is_first_where_turnable}
use Rattle.style_modes.proofs.laws.none_is_first_where_turnable.Goals as goal

pub returns : goal.returns
returns c = none_is_first_where_turnable
