use Rattle.std.proofs.Common.{ap, refl, option_map}
use Rattle.face_api.specs.Faces.{faces_of}
use Rattle.undo_log.specs.Log.{gone_up, next_ahead}
use Rattle.edit_script.specs.Meaning as steps
use Rattle.session.specs.declared.error.UndoError.TheVariants.{NoRedo}
use Rattle.session.specs.History.{redone}
use Rattle.edit_job.proofs.OwedLaws.{move_pays, redo_none_pays}
use Rattle.edit_job.proofs.StepLaws.{move_begins, move_goes, on_ok, redo_none_begins, redo_none_goes}
use Rattle.edit_job.proofs.steps.tell_redo.Goals as goal

pub returns-in-Ok-clause-whole : goal.returns-in-Ok-clause-whole
returns-in-Ok-clause-whole g c =
    let old = c.args.session.now in
    let new = c.redo.new.self in
    let sink = g.K.Sink.held c.args.sink.now in
    move_goes (faces_of (λ vtable. (g.dyn-1.0.entry vtable).1) old.faces) (faces_of (λ vtable. (g.dyn-1.0.entry vtable).1) new.faces) old new c.args.line sink sink steps.redo redone NoRedo (λ opened next due moves. moves) (λ opened next due step. step) refl
    c.in-Ok.ensures.redoes refl

pub returns-in-Ok-clause-front : goal.returns-in-Ok-clause-front
returns-in-Ok-clause-front g c =
    let old = c.args.session.now in
    let new = c.redo.new.self in
    let sink = g.K.Sink.held c.args.sink.now in
    move_begins (faces_of (λ vtable. (g.dyn-1.0.entry vtable).1) old.faces) (faces_of (λ vtable. (g.dyn-1.0.entry vtable).1) new.faces) old new c.args.line sink sink steps.redo redone NoRedo (λ opened next due moves. moves) (λ opened next due step. step) refl refl

pub returns-in-Ok-clause-paid : goal.returns-in-Ok-clause-paid
returns-in-Ok-clause-paid g c =
    let old = c.args.session.now in
    let new = c.redo.new.self in
    let (step, is, done) = c.in-Ok.ensures.step in
    move_pays (faces_of (λ vtable. (g.dyn-1.0.entry vtable).1) old.faces) (faces_of (λ vtable. (g.dyn-1.0.entry vtable).1) new.faces) old new steps.redo (option_map (λ step. step.again) (next_ahead old.log)) (gone_up old.log) (λ owing more next owes. owes)
    step.again (ap (option_map (λ step. step.again)) is) done (c.in-Ok.ensures.loses step is)

pub returns-in-Err-clause-whole : goal.returns-in-Err-clause-whole
returns-in-Err-clause-whole g c =
    let old = c.args.session.now in
    let new = c.redo.new.self in
    on_ok c.tell_none.result c.tell_none.ensures.whole
    (λ told. redo_none_goes (faces_of (λ vtable. (g.dyn-1.0.entry vtable).1) old.faces) (faces_of (λ vtable. (g.dyn-1.0.entry vtable).1) new.faces) old new c.args.line (g.K.Sink.held c.args.sink.now) (g.K.Sink.held c.tell_none.new.sink)
    c.in-Err.error c.in-Err.ensures.redoes told.0 told.1)

pub returns-in-Err-clause-front : goal.returns-in-Err-clause-front
returns-in-Err-clause-front g c =
    let old = c.args.session.now in
    let new = c.redo.new.self in
    redo_none_begins (faces_of (λ vtable. (g.dyn-1.0.entry vtable).1) old.faces) (faces_of (λ vtable. (g.dyn-1.0.entry vtable).1) new.faces) old new c.args.line (g.K.Sink.held c.args.sink.now) (g.K.Sink.held c.tell_none.new.sink)
    c.in-Err.error c.in-Err.ensures.redoes c.tell_none.ensures.none c.tell_none.ensures.front

pub returns-in-Err-clause-paid : goal.returns-in-Err-clause-paid
returns-in-Err-clause-paid g c =
    let old = c.args.session.now in
    let new = c.redo.new.self in
    on_ok c.tell_none.result c.tell_none.ensures.whole
    (λ told. redo_none_pays (faces_of (λ vtable. (g.dyn-1.0.entry vtable).1) old.faces) (faces_of (λ vtable. (g.dyn-1.0.entry vtable).1) new.faces) old new c.in-Err.error c.in-Err.ensures.redoes c.in-Err.ensures.nothing told.0)
