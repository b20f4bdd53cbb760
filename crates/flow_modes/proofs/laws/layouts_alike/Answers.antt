use Rattle.flow_modes.proofs.FlowLaws.{layouts_alike}
use Rattle.flow_modes.proofs.laws.layouts_alike.Goals as goal

pub returns : goal.returns
returns c = layouts_alike
