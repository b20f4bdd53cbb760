use Rattle.computed.proofs.Turning.{inherits}
use Rattle.computed.proofs.laws.nothing_won_inherits.Goals as goal

pub returns : goal.returns
returns c = inherits
