use Rattle.std.proofs.Common.{ap, refl, option_map}
use Rattle.face_api.specs.Faces.{faces_of}
use Rattle.undo_log.specs.Log.{gone_down, next_back}
use Rattle.edit_script.specs.Meaning as steps
use Rattle.session.specs.declared.error.UndoError.TheVariants.{NoUndo}
use Rattle.session.specs.History.{undone}
use Rattle.edit_job.proofs.OwedLaws.{move_pays, undo_none_pays}
use Rattle.edit_job.proofs.StepLaws.{move_begins, move_goes, on_ok, undo_none_begins, undo_none_goes}
use Rattle.edit_job.proofs.steps.tell_undo.Goals as goal

pub returns-in-Ok-clause-whole : goal.returns-in-Ok-clause-whole
returns-in-Ok-clause-whole g c =
    let old = c.args.session.now in
    let new = c.undo.new.self in
    let sink = g.K.Sink.held c.args.sink.now in
    move_goes (faces_of (λ vtable. (g.dyn-1.0.entry vtable).1) old.faces) (faces_of (λ vtable. (g.dyn-1.0.entry vtable).1) new.faces) old new c.args.line sink sink steps.undo undone NoUndo (λ opened next due moves. moves) (λ opened next due step. step) refl
    c.in-Ok.ensures.undoes refl

pub returns-in-Ok-clause-front : goal.returns-in-Ok-clause-front
returns-in-Ok-clause-front g c =
    let old = c.args.session.now in
    let new = c.undo.new.self in
    let sink = g.K.Sink.held c.args.sink.now in
    move_begins (faces_of (λ vtable. (g.dyn-1.0.entry vtable).1) old.faces) (faces_of (λ vtable. (g.dyn-1.0.entry vtable).1) new.faces) old new c.args.line sink sink steps.undo undone NoUndo (λ opened next due moves. moves) (λ opened next due step. step) refl refl

pub returns-in-Ok-clause-paid : goal.returns-in-Ok-clause-paid
returns-in-Ok-clause-paid g c =
    let old = c.args.session.now in
    let new = c.undo.new.self in
    let (step, is, done) = c.in-Ok.ensures.step in
    move_pays (faces_of (λ vtable. (g.dyn-1.0.entry vtable).1) old.faces) (faces_of (λ vtable. (g.dyn-1.0.entry vtable).1) new.faces) old new steps.undo (option_map (λ step. step.back) (next_back old.log)) (gone_down old.log) (λ owing more next owes. owes)
    step.back (ap (option_map (λ step. step.back)) is) done (c.in-Ok.ensures.loses step is)

pub returns-in-Err-clause-whole : goal.returns-in-Err-clause-whole
returns-in-Err-clause-whole g c =
    let old = c.args.session.now in
    let new = c.undo.new.self in
    on_ok c.tell_none.result c.tell_none.ensures.whole
    (λ told. undo_none_goes (faces_of (λ vtable. (g.dyn-1.0.entry vtable).1) old.faces) (faces_of (λ vtable. (g.dyn-1.0.entry vtable).1) new.faces) old new c.args.line (g.K.Sink.held c.args.sink.now) (g.K.Sink.held c.tell_none.new.sink)
    c.in-Err.error c.in-Err.ensures.undoes told.0 told.1)

pub returns-in-Err-clause-front : goal.returns-in-Err-clause-front
returns-in-Err-clause-front g c =
    let old = c.args.session.now in
    let new = c.undo.new.self in
    undo_none_begins (faces_of (λ vtable. (g.dyn-1.0.entry vtable).1) old.faces) (faces_of (λ vtable. (g.dyn-1.0.entry vtable).1) new.faces) old new c.args.line (g.K.Sink.held c.args.sink.now) (g.K.Sink.held c.tell_none.new.sink)
    c.in-Err.error c.in-Err.ensures.undoes c.tell_none.ensures.none c.tell_none.ensures.front

pub returns-in-Err-clause-paid : goal.returns-in-Err-clause-paid
returns-in-Err-clause-paid g c =
    let old = c.args.session.now in
    let new = c.undo.new.self in
    on_ok c.tell_none.result c.tell_none.ensures.whole
    (λ told. undo_none_pays (faces_of (λ vtable. (g.dyn-1.0.entry vtable).1) old.faces) (faces_of (λ vtable. (g.dyn-1.0.entry vtable).1) new.faces) old new c.in-Err.error c.in-Err.ensures.undoes c.in-Err.ensures.nothing told.0)
