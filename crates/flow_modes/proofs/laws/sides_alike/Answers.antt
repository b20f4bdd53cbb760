use Rattle.flow_modes.proofs.SideLaws.{sides_alike}
use Rattle.flow_modes.proofs.laws.sides_alike.Goals as goal

pub returns : goal.returns
returns c = sides_alike
