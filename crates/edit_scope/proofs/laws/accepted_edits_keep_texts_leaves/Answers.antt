use Rattle.edit_scope.proofs.LeafLaws.{edits_keep_leaves}
use Rattle.edit_scope.proofs.laws.accepted_edits_keep_texts_leaves.Goals as goal

pub returns : goal.returns
returns c = edits_keep_leaves
