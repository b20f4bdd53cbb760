use Rattle.edit_job.proofs.OwedLaws.{owed_once}
use Rattle.edit_job.proofs.laws.steps_owe_once.Goals as goal

pub returns : goal.returns
returns c = owed_once c.one_outcome.ensures
