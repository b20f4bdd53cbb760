use Rattle.edit_scope.proofs.Untouched.{untouched_lines}
use Rattle.edit_scope.proofs.laws.untouched_elements_keep_their_lines.Goals as goal

pub returns : goal.returns
returns c = untouched_lines
