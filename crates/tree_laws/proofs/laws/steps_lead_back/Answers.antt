use Rattle.tree_laws.proofs.Stepped.{steps_lead_back}
use Rattle.tree_laws.proofs.laws.steps_lead_back.Goals as goal

pub returns : goal.returns
returns c = steps_lead_back
