use Rattle.std.proofs.Common.{subst, sym}
use Rattle.face_api.specs.Faces.{faces_of}
use Rattle.command_line.specs.declared.job.Command.{Command}
use Rattle.wm_run.specs.Job.{IsDueOfCommand}
use Rattle.wm_run.specs.Owed.{IsOwedByCommand}
use Rattle.wm_run.specs.Standing.{Stands}
use Rattle.wm_run.proofs.job.tell_job.Goals as goal

pub returns-in-Layout-clause-stands : goal.returns-in-Layout-clause-stands
returns-in-Layout-clause-stands g c = λ input told.
    let faces = faces_of (λ vtable. (g.dyn-1.0.entry vtable).1) c.args.faces in
    let P : Command → Type 0 = λ command. Stands (IsDueOfCommand command faces c.args.job.view c.args.job.count input) (g.K.Sink.held c.args.sink.now) (g.K.Sink.held c.tell_input.new.sink) c.tell_input.result in
    subst P (sym c.in-Layout.is) (c.tell_input.ensures.stands input told)

pub returns-in-Edit-clause-stands : goal.returns-in-Edit-clause-stands
returns-in-Edit-clause-stands g c = λ input told.
    let faces = faces_of (λ vtable. (g.dyn-1.0.entry vtable).1) c.args.faces in
    let P : Command → Type 0 = λ command. Stands (IsDueOfCommand command faces c.args.job.view c.args.job.count input) (g.K.Sink.held c.args.sink.now) (g.K.Sink.held c.tell_input-in-Edit.new.sink) c.tell_input-in-Edit.result in
    subst P (sym c.in-Edit.is) (c.tell_input-in-Edit.ensures.stands input told)

pub returns-in-Modes-clause-stands : goal.returns-in-Modes-clause-stands
returns-in-Modes-clause-stands g c = λ input told.
    let faces = faces_of (λ vtable. (g.dyn-1.0.entry vtable).1) c.args.faces in
    let P : Command → Type 0 = λ command. Stands (IsDueOfCommand command faces c.args.job.view c.args.job.count input) (g.K.Sink.held c.args.sink.now) (g.K.Sink.held c.tell_input-in-Modes.new.sink) c.tell_input-in-Modes.result in
    subst P (sym c.in-Modes.is) (c.tell_input-in-Modes.ensures.stands input told)

pub returns-in-Probe-clause-stands : goal.returns-in-Probe-clause-stands
returns-in-Probe-clause-stands g c = λ input told.
    let faces = faces_of (λ vtable. (g.dyn-1.0.entry vtable).1) c.args.faces in
    let P : Command → Type 0 = λ command. Stands (IsDueOfCommand command faces c.args.job.view c.args.job.count input) (g.K.Sink.held c.args.sink.now) (g.K.Sink.held c.tell_input-in-Probe.new.sink) c.tell_input-in-Probe.result in
    subst P (sym c.in-Probe.is) (c.tell_input-in-Probe.ensures.stands input told)

pub returns-in-Gen-clause-stands : goal.returns-in-Gen-clause-stands
returns-in-Gen-clause-stands g c = λ input told.
    let faces = faces_of (λ vtable. (g.dyn-1.0.entry vtable).1) c.args.faces in
    let P : Command → Type 0 = λ command. Stands (IsDueOfCommand command faces c.args.job.view c.args.job.count input) (g.K.Sink.held c.args.sink.now) (g.K.Sink.held c.tell_generated.new.sink) c.tell_generated.result in
    subst P (sym c.in-Gen.is) c.tell_generated.ensures.stands

pub returns-in-Layout-clause-counts : goal.returns-in-Layout-clause-counts
returns-in-Layout-clause-counts g c = λ input owed told owes.
    let P : Command → Type 0 = λ command. IsOwedByCommand command (faces_of (λ vtable. (g.dyn-1.0.entry vtable).1) c.args.faces) c.args.job.view c.args.job.count input owed in
    c.tell_input.ensures.counts input owed told (subst P c.in-Layout.is owes)

pub returns-in-Edit-clause-counts : goal.returns-in-Edit-clause-counts
returns-in-Edit-clause-counts g c = λ input owed told owes.
    let P : Command → Type 0 = λ command. IsOwedByCommand command (faces_of (λ vtable. (g.dyn-1.0.entry vtable).1) c.args.faces) c.args.job.view c.args.job.count input owed in
    c.tell_input-in-Edit.ensures.counts input owed told (subst P c.in-Edit.is owes)

pub returns-in-Modes-clause-counts : goal.returns-in-Modes-clause-counts
returns-in-Modes-clause-counts g c = λ input owed told owes.
    let P : Command → Type 0 = λ command. IsOwedByCommand command (faces_of (λ vtable. (g.dyn-1.0.entry vtable).1) c.args.faces) c.args.job.view c.args.job.count input owed in
    c.tell_input-in-Modes.ensures.counts input owed told (subst P c.in-Modes.is owes)

pub returns-in-Probe-clause-counts : goal.returns-in-Probe-clause-counts
returns-in-Probe-clause-counts g c = λ input owed told owes.
    let P : Command → Type 0 = λ command. IsOwedByCommand command (faces_of (λ vtable. (g.dyn-1.0.entry vtable).1) c.args.faces) c.args.job.view c.args.job.count input owed in
    c.tell_input-in-Probe.ensures.counts input owed told (subst P c.in-Probe.is owes)

pub returns-in-Gen-clause-counts : goal.returns-in-Gen-clause-counts
returns-in-Gen-clause-counts g c = λ input owed told owes.
    let P : Command → Type 0 = λ command. IsOwedByCommand command (faces_of (λ vtable. (g.dyn-1.0.entry vtable).1) c.args.faces) c.args.job.view c.args.job.count input owed in
    c.tell_generated.ensures.counts owed (subst P c.in-Gen.is owes)
