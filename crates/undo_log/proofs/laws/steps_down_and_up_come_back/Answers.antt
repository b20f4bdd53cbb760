use Rattle.undo_log.proofs.LogLaws.{come_back}
use Rattle.undo_log.proofs.laws.steps_down_and_up_come_back.Goals as goal

pub returns : goal.returns
returns c = come_back
