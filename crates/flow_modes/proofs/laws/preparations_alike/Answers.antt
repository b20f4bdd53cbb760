use Rattle.flow_modes.proofs.PreparedLaws.{preparations_alike}
use Rattle.flow_modes.proofs.laws.preparations_alike.Goals as goal

pub returns : goal.returns
returns c = preparations_alike
