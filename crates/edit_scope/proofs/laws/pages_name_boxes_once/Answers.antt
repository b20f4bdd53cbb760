use Rattle.edit_scope.proofs.PageLaws.{pages_name_once}
use Rattle.edit_scope.proofs.laws.pages_name_boxes_once.Goals as goal

pub returns : goal.returns
returns c = pages_name_once
