use Rattle.std.proofs.Common.{List, subst, sym}
use Rattle.face_api.specs.Faces.{faces_of}
use Rattle.edit_script.specs.declared.step.ScriptLine.{ScriptLine}
use Rattle.edit_script.specs.Views.{steps_of}
use Rattle.edit_job.specs.Told.{HasRoom}
use Rattle.input_due.specs.declared.due.Due.{Due}
use Rattle.input_due.specs.Due.{IsOf, IsReady}
use Rattle.wm_run.specs.Job.{with_status}
use Rattle.wm_run.specs.Standing.{Stands}
use Rattle.wm_run.specs.declared.status.Status.{Status}
use Rattle.wm_run.proofs.CountLaws.{answers_count, none_counted, pages_count, steps_count}
use Rattle.wm_run.proofs.JobLaws.{stands_answers, stands_pages, stands_steps}
use Rattle.wm_run.proofs.tell.tell.Goals as goal

pub tell_steps-written-requires-clause-room : goal.tell_steps-written-requires-clause-room
tell_steps-written-requires-clause-room g c =
    let ready = subst (λ (d : Due _ _). IsReady (λ vtable. (g.dyn-1.0.entry vtable).1) d) c.in-Steps.is c.requires.ready in
    let faces = faces_of (λ vtable. (g.dyn-1.0.entry vtable).1) c.in-Steps.session.faces in
    subst (λ (l : List ScriptLine). HasRoom faces c.in-Steps.session (steps_of l)) (sym c.deref.ensures.value) ready.room

pub returns-in-Steps-clause-stands : goal.returns-in-Steps-clause-stands
returns-in-Steps-clause-stands g c =
    let old = g.K.Sink.held c.args.sink.now in
    let new = g.K.Sink.held c.tell_steps-written.new.sink in
    let steps = c.tell_steps-written.ensures in
    subst (λ (s : Status). Stands (with_status (IsOf (λ vtable. (g.dyn-1.0.entry vtable).1) c.args.due)) old new s) (sym c.ended.ensures)
    (stands_steps (λ vtable. (g.dyn-1.0.entry vtable).1) c.args.due c.in-Steps.session c.tell_steps-written.new.session (faces_of (λ vtable. (g.dyn-1.0.entry vtable).1) c.tell_steps-written.new.session.faces)
    c.in-Steps.script c.deref.result.now old new c.tell_steps-written.result c.in-Steps.is c.deref.ensures.value
    (subst (λ (d : Due _ _). IsReady (λ vtable. (g.dyn-1.0.entry vtable).1) d) c.in-Steps.is c.requires.ready).unedited steps.whole steps.front)

pub returns-in-Answers-clause-stands : goal.returns-in-Answers-clause-stands
returns-in-Answers-clause-stands g c =
    let old = g.K.Sink.held c.args.sink.now in
    let new = g.K.Sink.held c.tell_probes-written.new.sink in
    let told = c.tell_probes-written.ensures in
    subst (λ (s : Status). Stands (with_status (IsOf (λ vtable. (g.dyn-1.0.entry vtable).1) c.args.due)) old new s) (sym c.ended-in-Answers.ensures)
    (stands_answers (λ vtable. (g.dyn-1.0.entry vtable).1) c.args.due c.in-Answers.session c.in-Answers.probes c.deref-in-Answers.result.now old new c.tell_probes-written.result
    c.in-Answers.is c.deref-in-Answers.ensures.value told.whole told.front)

pub returns-in-Steps-clause-counts : goal.returns-in-Steps-clause-counts
returns-in-Steps-clause-counts g c =
    steps_count (λ vtable. (g.dyn-1.0.entry vtable).1) c.all_are_owed_at_first.ensures c.args.due c.in-Steps.session c.in-Steps.script c.deref.result.now c.args.prepared.now c.tell_steps-written.new.prepared c.args.arranged.now c.tell_steps-written.new.arranged
    c.in-Steps.is c.deref.ensures.value c.requires.ready c.tell_steps-written.ensures.costs

pub returns-in-Answers-clause-counts : goal.returns-in-Answers-clause-counts
returns-in-Answers-clause-counts g c =
    answers_count (λ vtable. (g.dyn-1.0.entry vtable).1) c.args.due c.in-Answers.session c.in-Answers.probes c.args.prepared.now c.tell_probes-written.new.prepared c.args.arranged.now c.tell_probes-written.new.arranged
    c.in-Answers.is c.tell_probes-written.ensures.counts

pub returns-in-Refused-clause-counts : goal.returns-in-Refused-clause-counts
returns-in-Refused-clause-counts g c = λ owed owes. none_counted owed c.args.prepared.now c.args.arranged.now

pub returns-in-Pages-clause-stands : goal.returns-in-Pages-clause-stands
returns-in-Pages-clause-stands g c =
    let old = g.K.Sink.held c.args.sink.now in
    let new = g.K.Sink.held c.tell_pages-written.new.sink in
    let told = c.tell_pages-written.ensures in
    subst (λ (s : Status). Stands (with_status (IsOf (λ vtable. (g.dyn-1.0.entry vtable).1) c.args.due)) old new s) (sym c.ended-in-Pages.ensures)
    (stands_pages (λ vtable. (g.dyn-1.0.entry vtable).1) c.args.due c.in-Pages.session old new c.tell_pages-written.result c.in-Pages.is told.whole told.front)

pub returns-in-Pages-clause-counts : goal.returns-in-Pages-clause-counts
returns-in-Pages-clause-counts g c =
    pages_count (λ vtable. (g.dyn-1.0.entry vtable).1) c.args.due c.in-Pages.session c.args.prepared.now c.tell_pages-written.new.prepared c.args.arranged.now c.tell_pages-written.new.arranged
    c.in-Pages.is c.tell_pages-written.ensures.counts
