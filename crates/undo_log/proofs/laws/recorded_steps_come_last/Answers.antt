use Rattle.undo_log.proofs.LogLaws.{come_last}
use Rattle.undo_log.proofs.laws.recorded_steps_come_last.Goals as goal

pub returns : goal.returns
returns c = come_last
