use Rattle.tree_laws.proofs.Edited.{opened_are_whole}
use Rattle.tree_laws.proofs.laws.opened_documents_are_whole.Goals as goal

pub returns : goal.returns
returns c = opened_are_whole
