use Rattle.edit_scope.proofs.ExactLaws.{exact_unscoped_places}
use Rattle.edit_scope.proofs.laws.boxes_outside_the_scope_of_an_exact_edit_were_there.Goals as goal

pub returns : goal.returns
returns c = exact_unscoped_places
