use Rattle.std.proofs.Common.{◌≡◌, ◌∙◌, ap}
use Rattle.face_api.specs.Faces.{faces_of}
use Rattle.wm_run.specs.Job.{IsDueOfGenerated, counted}
use Rattle.wm_run.specs.declared.status.Status.TheVariants.{Done}
use Rattle.wm_run.proofs.JobLaws.{only_counted}
use Rattle.wm_run.proofs.StandingLaws.{nothing_written, stands_only}
use Rattle.wm_run.proofs.generated.tell_generated.Goals as goal

pub returns-in-Ok-clause-stands : goal.returns-in-Ok-clause-stands
returns-in-Ok-clause-stands g c =
    let faces = faces_of (λ vtable. (g.dyn-1.0.entry vtable).1) c.args.faces in
    let of_text : c.as_bytes.result.now ≡ c.deref.result.now = c.as_bytes.ensures.value in
    let of_line : c.deref.result.now ≡ c.line_of.result.bytes = c.deref.ensures.0 in
    let of_counts : c.line_of.result.bytes ≡ counted c.args.count c.bytes.result.now = c.line_of.ensures in
    let of_bytes : c.bytes.result.now ≡ c.in-Ok.written = c.bytes.ensures in
    stands_only Done c.as_bytes.result.now (g.K.Sink.held c.args.sink.now) (g.K.Sink.held c.tell_line.new.sink) (IsDueOfGenerated faces c.args.view c.args.count) c.tell_line.result tt
    (only_counted faces c.args.view c.args.count c.in-Ok.written c.as_bytes.result.now c.in-Ok.ensures.is c.in-Ok.ensures.only
    (of_text ∙ of_line ∙ of_counts ∙ ap (counted c.args.count) of_bytes)) c.tell_line.ensures.gives

pub returns-in-Err-clause-stands : goal.returns-in-Err-clause-stands
returns-in-Err-clause-stands g c = nothing_written (IsDueOfGenerated (faces_of (λ vtable. (g.dyn-1.0.entry vtable).1) c.args.faces) c.args.view c.args.count) (g.K.Sink.held c.args.sink.now)
