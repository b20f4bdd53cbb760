use Rattle.flow_laws.proofs.StaticFlow.{layouts_are_of_static_boxes}
use Rattle.flow_laws.proofs.position.boxes_are_laid_out_as_static_ones.Goals as goal

pub returns : goal.returns
returns c = layouts_are_of_static_boxes
