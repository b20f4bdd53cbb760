use Rattle.flow_modes.proofs.UnitLaws.{units_alike}
use Rattle.flow_modes.proofs.laws.units_alike.Goals as goal

pub returns : goal.returns
returns c = units_alike
