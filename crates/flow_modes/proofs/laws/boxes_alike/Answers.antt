use Rattle.flow_modes.proofs.FlowLaws.{boxes_alike}
use Rattle.flow_modes.proofs.laws.boxes_alike.Goals as goal

pub returns : goal.returns
returns c = boxes_alike
