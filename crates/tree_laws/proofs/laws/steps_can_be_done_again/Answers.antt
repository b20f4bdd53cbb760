use Rattle.tree_laws.proofs.Doable.{steps_can_be_done_again}
use Rattle.tree_laws.proofs.laws.steps_can_be_done_again.Goals as goal

pub returns : goal.returns
returns c = steps_can_be_done_again
