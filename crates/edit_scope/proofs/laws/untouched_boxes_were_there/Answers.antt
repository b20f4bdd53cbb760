use Rattle.edit_scope.proofs.EditedPages.{untouched_places}
use Rattle.edit_scope.proofs.laws.untouched_boxes_were_there.Goals as goal

pub returns : goal.returns
returns c = untouched_places
