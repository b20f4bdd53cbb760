use Rattle.block_flow.proofs.AdjoiningLaws.{adjoin_outside}
use Rattle.block_flow.proofs.laws.outer_margins_adjoin.Goals as goal

pub returns : goal.returns
returns c = adjoin_outside
