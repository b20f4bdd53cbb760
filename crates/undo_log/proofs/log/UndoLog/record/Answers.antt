use Rattle.undo_log.proofs.RingLaws.{recorded_as, recorded_sound}
use Rattle.undo_log.proofs.log.UndoLog.record.Goals as goal

pub invariant_of-self : goal.invariant_of-self
invariant_of-self c =
    rw (c.len-self-inside.ensures.len, c.push_back.ensures.items, c.truncate_back.ensures)
    (recorded_sound c.self.inside.steps c.self.inside.done c.self.invariant c.args.step)

pub returns : goal.returns
returns c =
    rw (c.len-self-inside.ensures.len, c.push_back.ensures.items, c.truncate_back.ensures, ← c.self.view_is)
    (recorded_as c.self.inside.steps c.self.inside.done c.self.invariant c.args.step)
