use Rattle.undo_log.proofs.LogLaws.{stay_few}
use Rattle.undo_log.proofs.laws.steps_stay_few.Goals as goal

pub returns : goal.returns
returns c = stay_few
