use Rattle.edit_scope.proofs.Untouched.{unscoped_lines}
use Rattle.edit_scope.proofs.laws.elements_outside_the_scope_keep_their_lines.Goals as goal

pub returns : goal.returns
returns c = unscoped_lines
