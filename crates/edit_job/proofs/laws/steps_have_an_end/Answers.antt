use Rattle.edit_job.proofs.StepLaws.{some_end}
use Rattle.edit_job.proofs.laws.steps_have_an_end.Goals as goal

pub returns : goal.returns
returns c = some_end c.one_outcome.ensures
