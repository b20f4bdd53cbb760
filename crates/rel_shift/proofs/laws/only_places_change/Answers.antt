use Rattle.rel_shift.proofs.ShiftLaws.{only_places}
use Rattle.rel_shift.proofs.laws.only_places_change.Goals as goal

pub returns : goal.returns
returns c = only_places
