use Rattle.edit_scope.proofs.PageLaws.{pages_are_boxes}
use Rattle.edit_scope.proofs.laws.pages_are_boxes_of_html.Goals as goal

pub returns : goal.returns
returns c = pages_are_boxes
