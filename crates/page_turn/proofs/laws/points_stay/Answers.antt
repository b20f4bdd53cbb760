use Rattle.page_turn.proofs.RectLaws.{points_stay}
use Rattle.page_turn.proofs.laws.points_stay.Goals as goal

pub returns : goal.returns
returns c = points_stay
