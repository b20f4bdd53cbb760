use Rattle.undo_log.proofs.HistoryLaws.{stand_for_states}
use Rattle.undo_log.proofs.laws.logs_stand_for_states.Goals as goal

pub returns : goal.returns
returns c = stand_for_states
