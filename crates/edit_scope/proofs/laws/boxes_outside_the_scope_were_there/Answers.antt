use Rattle.edit_scope.proofs.EditedPages.{unscoped_places}
use Rattle.edit_scope.proofs.laws.boxes_outside_the_scope_were_there.Goals as goal

pub returns : goal.returns
returns c = unscoped_places
