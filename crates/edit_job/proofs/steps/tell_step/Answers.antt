use Rattle.std.proofs.Common.{arith, ap, subst, sym}
use Rattle.face_api.specs.Faces.{faces_of}
use Rattle.edits.specs.Change.{change_of}
use Rattle.edit_script.specs.Meaning as steps
use Rattle.edit_script.specs.Meaning.{Step}
use Rattle.session.specs.State.{state_in}
use Rattle.session.specs.declared.session.Session.{Session}
use Rattle.edit_job.specs.Owed.{Owing, RiseTo, logged_in}
use Rattle.edit_job.proofs.OwedLaws.{page_pays, step_rises}
use Rattle.edit_job.proofs.StepLaws.{on_ok, page_begins, page_goes}
use Rattle.edit_job.proofs.steps.tell_step.Goals as goal

pub returns-in-Show-clause-whole : goal.returns-in-Show-clause-whole
returns-in-Show-clause-whole g c = rw c.in-Show.is (
    let old = c.args.session.now in
    let new = c.tell_page.new.session in
    let rest = c.tell_page.ensures.rest in
    on_ok c.tell_page.result c.tell_page.ensures.whole (λ appended.
    page_goes (faces_of (λ vtable. (g.dyn-1.0.entry vtable).1) old.faces) (faces_of (λ vtable. (g.dyn-1.0.entry vtable).1) new.faces) old new c.args.line.now.line (g.K.Sink.held c.args.sink.now) (g.K.Sink.held c.tell_page.new.sink)
    (ap (λ (s : Session _ _). state_in (faces_of (λ vtable. (g.dyn-1.0.entry vtable).1) s.faces) s) rest) (ap (λ (s : Session _ _). s.log) rest) appended))

pub returns-in-Show-clause-front : goal.returns-in-Show-clause-front
returns-in-Show-clause-front g c = rw c.in-Show.is (
    let old = c.args.session.now in
    let new = c.tell_page.new.session in
    page_begins (faces_of (λ vtable. (g.dyn-1.0.entry vtable).1) old.faces) (faces_of (λ vtable. (g.dyn-1.0.entry vtable).1) new.faces) old new c.args.line.now.line (g.K.Sink.held c.args.sink.now) (g.K.Sink.held c.tell_page.new.sink) c.tell_page.ensures.front)

pub returns-in-Show-clause-costs : goal.returns-in-Show-clause-costs
returns-in-Show-clause-costs g c = rw c.in-Show.is (λ owing more next paid step.
    subst (λ (o : Owing). RiseTo owing o c.args.prepared.now c.tell_page.new.prepared c.args.arranged.now c.tell_page.new.arranged) (sym step.1) (c.tell_page.ensures.costs owing paid))

pub returns-in-Show-clause-paid : goal.returns-in-Show-clause-paid
returns-in-Show-clause-paid g c = rw c.in-Show.is (
    let old = c.args.session.now in
    let new = c.tell_page.new.session in
    let rest = c.tell_page.ensures.rest in
    on_ok c.tell_page.result c.tell_page.ensures.paid (λ pays.
    page_pays (faces_of (λ vtable. (g.dyn-1.0.entry vtable).1) old.faces) (faces_of (λ vtable. (g.dyn-1.0.entry vtable).1) new.faces) old new
    (ap (λ (s : Session _ _). state_in (faces_of (λ vtable. (g.dyn-1.0.entry vtable).1) s.faces) s) rest) (ap (λ (s : Session _ _). s.log) rest) pays))

pub returns-in-Edit-clause-whole : goal.returns-in-Edit-clause-whole
returns-in-Edit-clause-whole g c = rw c.in-Edit.is c.tell_edit.ensures.whole

pub returns-in-Edit-clause-front : goal.returns-in-Edit-clause-front
returns-in-Edit-clause-front g c = rw c.in-Edit.is c.tell_edit.ensures.front

pub returns-in-Edit-clause-costs : goal.returns-in-Edit-clause-costs
returns-in-Edit-clause-costs g c = rw c.in-Edit.is (λ owing more next paid step.
    let session = c.args.session.now in
    let rises = step_rises session.view (logged_in (faces_of (λ vtable. (g.dyn-1.0.entry vtable).1) session.faces) session) owing (steps.edit (change_of c.in-Edit.edit)) next more step in
    let texts = rises.0 in
    let contents = rises.1 in
    record { prepared = omega (arith, texts); arranged = omega (arith, contents) })

pub returns-in-Edit-clause-paid : goal.returns-in-Edit-clause-paid
returns-in-Edit-clause-paid g c = rw c.in-Edit.is c.tell_edit.ensures.paid

pub returns-in-Undo-clause-whole : goal.returns-in-Undo-clause-whole
returns-in-Undo-clause-whole g c = rw c.in-Undo.is c.tell_undo.ensures.whole

pub returns-in-Undo-clause-front : goal.returns-in-Undo-clause-front
returns-in-Undo-clause-front g c = rw c.in-Undo.is c.tell_undo.ensures.front

pub returns-in-Undo-clause-costs : goal.returns-in-Undo-clause-costs
returns-in-Undo-clause-costs g c = rw c.in-Undo.is (λ owing more next paid step.
    let session = c.args.session.now in
    let rises = step_rises session.view (logged_in (faces_of (λ vtable. (g.dyn-1.0.entry vtable).1) session.faces) session) owing (steps.undo) next more step in
    let texts = rises.0 in
    let contents = rises.1 in
    record { prepared = omega (arith, texts); arranged = omega (arith, contents) })

pub returns-in-Undo-clause-paid : goal.returns-in-Undo-clause-paid
returns-in-Undo-clause-paid g c = rw c.in-Undo.is c.tell_undo.ensures.paid

pub returns-in-Redo-clause-whole : goal.returns-in-Redo-clause-whole
returns-in-Redo-clause-whole g c = rw c.in-Redo.is c.tell_redo.ensures.whole

pub returns-in-Redo-clause-front : goal.returns-in-Redo-clause-front
returns-in-Redo-clause-front g c = rw c.in-Redo.is c.tell_redo.ensures.front

pub returns-in-Redo-clause-costs : goal.returns-in-Redo-clause-costs
returns-in-Redo-clause-costs g c = rw c.in-Redo.is (λ owing more next paid step.
    let session = c.args.session.now in
    let rises = step_rises session.view (logged_in (faces_of (λ vtable. (g.dyn-1.0.entry vtable).1) session.faces) session) owing (steps.redo) next more step in
    let texts = rises.0 in
    let contents = rises.1 in
    record { prepared = omega (arith, texts); arranged = omega (arith, contents) })

pub returns-in-Redo-clause-paid : goal.returns-in-Redo-clause-paid
returns-in-Redo-clause-paid g c = rw c.in-Redo.is c.tell_redo.ensures.paid
