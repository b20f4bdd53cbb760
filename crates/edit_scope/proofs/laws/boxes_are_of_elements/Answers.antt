use Rattle.edit_scope.proofs.EditedPages.{boxes_of_elements}
use Rattle.edit_scope.proofs.laws.boxes_are_of_elements.Goals as goal

pub returns : goal.returns
returns c = boxes_of_elements
