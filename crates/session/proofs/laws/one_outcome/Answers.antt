use Rattle.session.proofs.Outcomes.{one_outcome}
use Rattle.session.proofs.laws.one_outcome.Goals as goal

pub returns : goal.returns
returns c = one_outcome
