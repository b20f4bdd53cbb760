use Rattle.flow_modes.proofs.SizeLaws.{inline_blocks_alike}
use Rattle.flow_modes.proofs.laws.inline_blocks_alike.Goals as goal

pub returns : goal.returns
returns c = inline_blocks_alike
