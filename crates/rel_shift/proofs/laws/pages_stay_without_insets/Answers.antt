use Rattle.rel_shift.proofs.ShiftLaws.{stay}
use Rattle.rel_shift.proofs.laws.pages_stay_without_insets.Goals as goal

pub returns : goal.returns
returns c = stay
