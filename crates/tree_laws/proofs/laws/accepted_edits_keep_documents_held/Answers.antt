use Rattle.tree_laws.proofs.Holding.{edits_keep_held}
use Rattle.tree_laws.proofs.laws.accepted_edits_keep_documents_held.Goals as goal

pub returns : goal.returns
returns c = edits_keep_held
