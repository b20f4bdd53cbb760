use Rattle.face_api.specs.Faces.{faces_of}
use Rattle.input_due.specs.Due.{IsOf}
use Rattle.input_due.specs.Input.{IsDueOfInput}
use Rattle.wm_run.specs.Job.{with_status}
use Rattle.wm_run.proofs.CountLaws.{none_counted}
use Rattle.wm_run.proofs.StandingLaws.{nothing_written, same_with, stands_by}
use Rattle.wm_run.proofs.job.tell_input.Goals as goal

pub returns-in-Ok-clause-stands : goal.returns-in-Ok-clause-stands
returns-in-Ok-clause-stands g c = λ input told.
    let faces = faces_of (λ vtable. (g.dyn-1.0.entry vtable).1) c.args.faces in
    stands_by (with_status (IsOf (λ vtable. (g.dyn-1.0.entry vtable).1) c.in-Ok.due)) (with_status (IsDueOfInput faces c.args.view c.args.follows input)) (g.K.Sink.held c.args.sink.now) (g.K.Sink.held c.tell.new.sink) c.tell.result
    (same_with (IsOf (λ vtable. (g.dyn-1.0.entry vtable).1) c.in-Ok.due) (IsDueOfInput faces c.args.view c.args.follows input) (λ end_ due. ((c.in-Ok.ensures.due input told end_ due).1, (c.in-Ok.ensures.due input told end_ due).0)))
    c.tell.ensures.stands

pub returns-in-Err-Memory-clause-stands : goal.returns-in-Err-Memory-clause-stands
returns-in-Err-Memory-clause-stands g c = λ input told.
    nothing_written (with_status (IsDueOfInput (faces_of (λ vtable. (g.dyn-1.0.entry vtable).1) c.args.faces) c.args.view c.args.follows input)) (g.K.Sink.held c.args.sink.now)

pub returns-in-Ok-clause-counts : goal.returns-in-Ok-clause-counts
returns-in-Ok-clause-counts g c = λ input owed told owes. c.tell.ensures.counts owed ((c.in-Ok.ensures.owed input told owed).0 owes)

pub returns-in-Err-ReadFault-clause-counts : goal.returns-in-Err-ReadFault-clause-counts
returns-in-Err-ReadFault-clause-counts g c = λ input owed told owes. none_counted owed c.args.prepared.now c.args.arranged.now

pub returns-in-Err-Memory-clause-counts : goal.returns-in-Err-Memory-clause-counts
returns-in-Err-Memory-clause-counts g c = λ input owed told owes. none_counted owed c.args.prepared.now c.args.arranged.now
