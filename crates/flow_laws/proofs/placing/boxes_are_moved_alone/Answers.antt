use Rattle.flow_laws.proofs.PlacingLaws.{boxes_are_moved_alone}
use Rattle.flow_laws.proofs.placing.boxes_are_moved_alone.Goals as goal

pub returns : goal.returns
returns c = boxes_are_moved_alone
