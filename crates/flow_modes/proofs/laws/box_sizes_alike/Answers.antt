use Rattle.flow_modes.proofs.SizeLaws.{box_sizes_alike}
use Rattle.flow_modes.proofs.laws.box_sizes_alike.Goals as goal

pub returns : goal.returns
returns c = box_sizes_alike
