use Rattle.rel_shift.proofs.ShiftLaws.{add_up}
use Rattle.rel_shift.proofs.laws.shifts_add_up.Goals as goal

pub returns : goal.returns
returns c = add_up
