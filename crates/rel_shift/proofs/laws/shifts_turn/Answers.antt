use Rattle.rel_shift.proofs.TurnLaws.{shifts_turn}
use Rattle.rel_shift.proofs.laws.shifts_turn.Goals as goal

pub returns : goal.returns
returns c = shifts_turn
