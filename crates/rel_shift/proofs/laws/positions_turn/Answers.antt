use Rattle.rel_shift.proofs.TurnLaws.{positions_turn}
use Rattle.rel_shift.proofs.laws.positions_turn.Goals as goal

pub returns : goal.returns
returns c = positions_turn
