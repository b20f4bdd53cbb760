use Rattle.undo_log.proofs.DrawnLaws.{documents_stay}
use Rattle.undo_log.proofs.laws.documents_stay_where_more_are_drawn.Goals as goal

pub returns : goal.returns
returns c = documents_stay
