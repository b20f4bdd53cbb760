use Rattle.tree_laws.proofs.Reaching.{opened_are_reached}
use Rattle.tree_laws.proofs.laws.opened_documents_are_reached.Goals as goal

pub returns : goal.returns
returns c = opened_are_reached
