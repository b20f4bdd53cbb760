use Rattle.rel_shift.proofs.Bounded.{positions_bounded}
use Rattle.rel_shift.proofs.laws.positions_are_bounded.Goals as goal

pub returns : goal.returns
returns c = positions_bounded
