use Rattle.page_turn.proofs.RectLaws.{are_inverse}
use Rattle.page_turn.proofs.laws.turned_back.Goals as goal

pub returns : goal.returns
returns c = are_inverse
