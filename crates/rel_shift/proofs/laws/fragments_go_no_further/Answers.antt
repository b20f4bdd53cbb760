use Rattle.rel_shift.proofs.ShiftLaws.{no_further}
use Rattle.rel_shift.proofs.laws.fragments_go_no_further.Goals as goal

pub returns : goal.returns
returns c = no_further
