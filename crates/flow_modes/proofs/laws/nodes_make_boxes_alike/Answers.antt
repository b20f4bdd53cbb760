use Rattle.flow_modes.proofs.BoxLaws.{nodes_make_boxes_alike}
use Rattle.flow_modes.proofs.laws.nodes_make_boxes_alike.Goals as goal

pub returns : goal.returns
returns c = nodes_make_boxes_alike
