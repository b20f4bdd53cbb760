use Rattle.flow_modes.proofs.PageLaws.{pages_are_turned}
use Rattle.flow_modes.proofs.laws.pages_are_turned.Goals as goal

pub returns : goal.returns
returns c = pages_are_turned
