use Rattle.flow_modes.proofs.SizeLaws.{equations_alike}
use Rattle.flow_modes.proofs.laws.equations_alike.Goals as goal

pub returns : goal.returns
returns c = equations_alike
