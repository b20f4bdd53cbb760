use Rattle.tree_laws.proofs.Edited.{edits_keep_whole}
use Rattle.tree_laws.proofs.laws.accepted_edits_keep_documents_whole.Goals as goal

pub returns : goal.returns
returns c = edits_keep_whole
