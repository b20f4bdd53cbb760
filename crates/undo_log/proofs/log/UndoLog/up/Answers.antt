use Rattle.std.proofs.Common.{arith}
use Rattle.undo_log.proofs.RingLaws.{some_left, up_as}
use Rattle.undo_log.proofs.log.UndoLog.up.Goals as goal

pub invariant_of-self : goal.invariant_of-self
invariant_of-self c =
    let left = some_left c.self.inside.steps c.self.inside.done c.self.invariant c.args.self.now c.self.view_is c.requires in
    record { room = c.self.invariant.room; few = c.self.invariant.few; within = omega arith }

pub returns : goal.returns
returns c = up_as c.self.inside.steps c.self.inside.done c.self.invariant c.args.self.now c.self.view_is
