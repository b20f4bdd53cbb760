use Rattle.tree_laws.proofs.Edited.{accepted_are_done}
use Rattle.tree_laws.proofs.laws.accepted_edits_are_done.Goals as goal

pub returns : goal.returns
returns c = accepted_are_done
