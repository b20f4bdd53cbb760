use Rattle.edit_job.proofs.StepLaws.{one_end}
use Rattle.edit_job.proofs.laws.steps_have_one_end.Goals as goal

pub returns : goal.returns
returns c = one_end c.one_outcome.ensures
