use Rattle.flow_laws.proofs.StaticBoxes.{static_nodes_make_static_boxes}
use Rattle.flow_laws.proofs.position.static_nodes_make_static_boxes.Goals as goal

pub returns : goal.returns
returns c = static_nodes_make_static_boxes
