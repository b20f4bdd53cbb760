use Rattle.flow_modes.proofs.AskLaws.{asks_alike}
use Rattle.flow_modes.proofs.laws.asks_alike.Goals as goal

pub returns : goal.returns
returns c = asks_alike
