use Rattle.tree_laws.proofs.Weighing.{edits_weigh}
use Rattle.tree_laws.proofs.laws.accepted_edits_weigh.Goals as goal

pub returns : goal.returns
returns c = edits_weigh
