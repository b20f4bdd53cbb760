use Rattle.page_turn.proofs.RectLaws.{distances_stay}
use Rattle.page_turn.proofs.laws.distances_stay.Goals as goal

pub returns : goal.returns
returns c = distances_stay
