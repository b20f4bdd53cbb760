use Rattle.tree_laws.proofs.Reaching.{edits_keep_reached}
use Rattle.tree_laws.proofs.laws.accepted_edits_keep_documents_reached.Goals as goal

pub returns : goal.returns
returns c = edits_keep_reached
