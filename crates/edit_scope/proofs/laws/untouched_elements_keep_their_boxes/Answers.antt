use Rattle.edit_scope.proofs.Untouched.{untouched_boxes}
use Rattle.edit_scope.proofs.laws.untouched_elements_keep_their_boxes.Goals as goal

pub returns : goal.returns
returns c = untouched_boxes
