use Rattle.edit_scope.proofs.Untouched.{unscoped_content}
use Rattle.edit_scope.proofs.laws.elements_outside_the_scope_keep_their_content.Goals as goal

pub returns : goal.returns
returns c = unscoped_content
