use Rattle.std.proofs.Common.{◌≡◌, ◌≤◌, ℕ, drop}
use Rattle.face_api.specs.Faces.{faces_of}
use Rattle.edit_script.specs.Views.{steps_of}
use Rattle.session.specs.History.{Opened}
use Rattle.session.specs.State.{Holds, IsSound}
use Rattle.edit_job.specs.Owed.{IsPaid, OweStepsFrom, Owing, logged_in}
use Rattle.edit_job.specs.Told.{HasRoom}
use Rattle.edit_job.proofs.OwedLaws.{IsLeft}
use Rattle.edit_job.proofs.StepLaws.{IsOnTheWay}
use Rattle.edit_job.proofs.steps.tell_steps.Given as goal

-- the steps so far were gone through, and those of the rest are left
abbrev pub invariant-loop-line : goal.invariant-loop-line
invariant-loop-line g l =
    let first = l.initial.session in
    let begun = faces_of (λ vtable. (g.dyn-1.0.entry vtable).1) first.faces in
    let faces = faces_of (λ vtable. (g.dyn-1.0.entry vtable).1) l.session.faces in record {
      way :
          (most : ℕ) (opened : Opened) → Holds begun most first opened
          → IsOnTheWay faces l.session first.view opened (g.K.Sink.held l.initial.sink) (g.K.Sink.held l.sink)
          (steps_of l.script) (steps_of (drop l.line-index l.script));
      room : HasRoom faces l.session (steps_of (drop l.line-index l.script));
      left :
          (owing last : Owing) → IsPaid first owing → OweStepsFrom first.view (logged_in begun first) owing (steps_of l.script) last
          → IsLeft first.view l.session (logged_in faces l.session) (steps_of (drop l.line-index l.script)) owing last l.initial.prepared l.prepared l.initial.arranged l.arranged;
      sound : IsSound faces l.session;
      same : l.session.view ≡ first.view;
      later : g.K.Sink.faults l.initial.sink ≤ g.K.Sink.faults l.sink;
    }
