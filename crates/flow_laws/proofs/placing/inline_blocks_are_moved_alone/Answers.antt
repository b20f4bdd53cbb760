use Rattle.flow_laws.proofs.AtomLaws.{inline_blocks_are_moved_alone}
use Rattle.flow_laws.proofs.placing.inline_blocks_are_moved_alone.Goals as goal

pub returns : goal.returns
returns c = inline_blocks_are_moved_alone
