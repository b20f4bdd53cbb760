use Rattle.edit_scope.proofs.ExactLaws.{exact_untouched_places}
use Rattle.edit_scope.proofs.laws.boxes_untouched_by_an_exact_edit_were_there.Goals as goal

pub returns : goal.returns
returns c = exact_untouched_places
