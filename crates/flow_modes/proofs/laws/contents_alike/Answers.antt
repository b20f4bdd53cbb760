use Rattle.flow_modes.proofs.ContentLaws.{contents_alike}
use Rattle.flow_modes.proofs.laws.contents_alike.Goals as goal

pub returns : goal.returns
returns c = contents_alike
