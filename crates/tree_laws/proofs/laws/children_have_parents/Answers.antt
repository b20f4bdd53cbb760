use Rattle.tree_laws.proofs.Parents.{children_have_parents}
use Rattle.tree_laws.proofs.laws.children_have_parents.Goals as goal

pub returns : goal.returns
returns c = children_have_parents
