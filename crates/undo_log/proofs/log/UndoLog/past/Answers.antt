use Rattle.std.proofs.Common.{arith}
use Rattle.undo_log.proofs.RingLaws.{back_some, back_step, few, no_past, none_back}
use Rattle.undo_log.proofs.log.UndoLog.past.Goals as goal

pub returns-then-self-eq0-clause-step : goal.returns-then-self-eq0-clause-step
returns-then-self-eq0-clause-step c = rw (← c.self.view_is) (none_back c.self.inside.steps c.self.inside.done c.self.invariant c.if-self-eq0.true)

pub returns-then-self-eq0-clause-some : goal.returns-then-self-eq0-clause-some
returns-then-self-eq0-clause-some c = rw (← c.self.view_is) (λ no. absurd cc, λ more. absurd (no_past c.self.inside.steps c.self.inside.done c.self.invariant c.if-self-eq0.true more))

pub returns-then-self-eq0-clause-few : goal.returns-then-self-eq0-clause-few
returns-then-self-eq0-clause-few c = rw (← c.self.view_is) (few c.self.inside.steps c.self.inside.done c.self.invariant)

pub returns-else-self-eq0-clause-step : goal.returns-else-self-eq0-clause-step
returns-else-self-eq0-clause-step c = rw (← c.self.view_is) (back_step c.self.inside.steps c.self.inside.done c.self.invariant c.get.result (omega arith) c.get.ensures)

pub returns-else-self-eq0-clause-some : goal.returns-else-self-eq0-clause-some
returns-else-self-eq0-clause-some c = rw (← c.self.view_is) (back_some c.self.inside.steps c.self.inside.done c.self.invariant c.get.result (omega arith) c.get.ensures)

pub returns-else-self-eq0-clause-few : goal.returns-else-self-eq0-clause-few
returns-else-self-eq0-clause-few c = rw (← c.self.view_is) (few c.self.inside.steps c.self.inside.done c.self.invariant)
