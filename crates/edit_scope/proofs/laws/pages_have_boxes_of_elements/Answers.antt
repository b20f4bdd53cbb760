use Rattle.edit_scope.proofs.PlaceLaws.{pages_have_boxes}
use Rattle.edit_scope.proofs.laws.pages_have_boxes_of_elements.Goals as goal

pub returns : goal.returns
returns c = pages_have_boxes
