use Rattle.tree_laws.proofs.Stepped.{steps_lead_there}
use Rattle.tree_laws.proofs.laws.steps_lead_there_again.Goals as goal

pub returns : goal.returns
returns c = steps_lead_there
