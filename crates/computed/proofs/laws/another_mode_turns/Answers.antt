use Rattle.computed.proofs.Turning.{turns}
use Rattle.computed.proofs.laws.another_mode_turns.Goals as goal

pub returns : goal.returns
returns c = turns
