use Rattle.block_flow.proofs.AdjoiningLaws.{taken_apart}
use Rattle.block_flow.proofs.laws.children_are_taken_apart.Goals as goal

pub returns : goal.returns
returns c = taken_apart
