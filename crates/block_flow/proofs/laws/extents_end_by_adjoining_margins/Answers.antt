use Rattle.block_flow.proofs.AdjoiningLaws.{end_by_adjoining}
use Rattle.block_flow.proofs.laws.extents_end_by_adjoining_margins.Goals as goal

pub returns : goal.returns
returns c = end_by_adjoining
