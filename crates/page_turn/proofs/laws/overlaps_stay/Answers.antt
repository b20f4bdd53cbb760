use Rattle.page_turn.proofs.RectLaws.{overlaps_stay}
use Rattle.page_turn.proofs.laws.overlaps_stay.Goals as goal

pub returns : goal.returns
returns c = overlaps_stay
