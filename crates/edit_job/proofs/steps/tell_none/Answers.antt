use Rattle.io_edge.proofs.Growth.{nothing_yet}
use Rattle.session.specs.Error.{undo_word}
use Rattle.edit_job.specs.Refusal.{refusal}
use Rattle.edit_job.proofs.steps.tell_none.Goals as goal

pub returns-in-Memory-clause-front : goal.returns-in-Memory-clause-front
returns-in-Memory-clause-front g c = nothing_yet (g.K.Sink.held c.args.sink.now) (refusal (undo_word c.args.error) c.args.line)
