use Rattle.undo_log.proofs.RingLaws.{down_as}
use Rattle.undo_log.proofs.log.UndoLog.down.Goals as goal

pub returns : goal.returns
returns c = down_as c.self.inside.steps c.self.inside.done c.self.invariant c.args.self.now c.self.view_is c.requires
