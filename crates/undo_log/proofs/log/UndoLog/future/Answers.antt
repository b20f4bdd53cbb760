use Rattle.undo_log.proofs.RingLaws.{ahead_some, ahead_step, few}
use Rattle.undo_log.proofs.log.UndoLog.future.Goals as goal

pub returns-clause-step : goal.returns-clause-step
returns-clause-step c = rw (← c.self.view_is) (ahead_step c.self.inside.steps c.self.inside.done c.self.invariant c.get.result c.get.ensures)

pub returns-clause-some : goal.returns-clause-some
returns-clause-some c = rw (← c.self.view_is) (ahead_some c.self.inside.steps c.self.inside.done c.self.invariant c.get.result c.get.ensures)

pub returns-clause-few : goal.returns-clause-few
returns-clause-few c = rw (← c.self.view_is) (few c.self.inside.steps c.self.inside.done c.self.invariant)
