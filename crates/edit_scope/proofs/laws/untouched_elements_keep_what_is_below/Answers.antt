use Rattle.edit_scope.proofs.Untouched.{untouched_below}
use Rattle.edit_scope.proofs.laws.untouched_elements_keep_what_is_below.Goals as goal

pub returns : goal.returns
returns c = untouched_below
