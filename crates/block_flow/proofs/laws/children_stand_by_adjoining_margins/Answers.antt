use Rattle.block_flow.proofs.AdjoiningLaws.{stand_by_adjoining}
use Rattle.block_flow.proofs.laws.children_stand_by_adjoining_margins.Goals as goal

pub returns : goal.returns
returns c = stand_by_adjoining
