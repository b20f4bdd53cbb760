use Rattle.tree_laws.proofs.Doable.{steps_can_be_taken_back}
use Rattle.tree_laws.proofs.laws.steps_can_be_taken_back.Goals as goal

pub returns : goal.returns
returns c = steps_can_be_taken_back
