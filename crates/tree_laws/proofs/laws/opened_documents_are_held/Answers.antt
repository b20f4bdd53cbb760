use Rattle.tree_laws.proofs.Holding.{opened_are_held}
use Rattle.tree_laws.proofs.laws.opened_documents_are_held.Goals as goal

pub returns : goal.returns
returns c = opened_are_held
