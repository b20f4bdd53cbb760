use Rattle.flow_laws.proofs.PlacingLaws.{come_at_zero}
use Rattle.flow_laws.proofs.placing.what_a_box_comes_to_stands_at_zero.Goals as goal

pub returns : goal.returns
returns c = come_at_zero
