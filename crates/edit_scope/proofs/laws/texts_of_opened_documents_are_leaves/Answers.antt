use Rattle.edit_scope.proofs.LeafLaws.{opened_texts_are_leaves}
use Rattle.edit_scope.proofs.laws.texts_of_opened_documents_are_leaves.Goals as goal

pub returns : goal.returns
returns c = opened_texts_are_leaves
