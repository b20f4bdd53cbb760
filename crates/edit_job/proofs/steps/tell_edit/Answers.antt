use Rattle.std.proofs.Common.{arith, refl}
use Rattle.face_api.specs.Faces.{faces_of}
use Rattle.edits.specs.Change.{change_of}
use Rattle.session.specs.State.{state_in}
use Rattle.edit_job.proofs.OwedLaws.{done_pays, refused_pays}
use Rattle.edit_job.proofs.StepLaws.{edit_begins, edit_goes, on_ok, reason, refused_begins, refused_goes}
use Rattle.edit_job.proofs.steps.tell_edit.Goals as goal

pub apply-requires-clause-room : goal.apply-requires-clause-room
apply-requires-clause-room g c = λ can.
    let session = c.args.session.now in
    let more = c.edits_bring_no_more.ensures (state_in (faces_of (λ vtable. (g.dyn-1.0.entry vtable).1) session.faces) session) (change_of c.args.edit.now) can.taken in
    let room = c.requires.room in
    omega (arith, more, room)

pub returns-in-Ok-clause-whole : goal.returns-in-Ok-clause-whole
returns-in-Ok-clause-whole g c =
    let old = c.args.session.now in
    let new = c.apply.new.self in
    let sink = g.K.Sink.held c.args.sink.now in
    edit_goes (faces_of (λ vtable. (g.dyn-1.0.entry vtable).1) old.faces) (faces_of (λ vtable. (g.dyn-1.0.entry vtable).1) new.faces) old new c.args.line sink sink (change_of c.args.edit.now)
    c.in-Ok.ensures.applies.0 c.in-Ok.ensures.applies.1 c.in-Ok.ensures.history refl

pub returns-in-Ok-clause-front : goal.returns-in-Ok-clause-front
returns-in-Ok-clause-front g c =
    let old = c.args.session.now in
    let new = c.apply.new.self in
    let sink = g.K.Sink.held c.args.sink.now in
    edit_begins (faces_of (λ vtable. (g.dyn-1.0.entry vtable).1) old.faces) (faces_of (λ vtable. (g.dyn-1.0.entry vtable).1) new.faces) old new c.args.line sink sink (change_of c.args.edit.now) refl

pub returns-in-Ok-clause-paid : goal.returns-in-Ok-clause-paid
returns-in-Ok-clause-paid g c =
    let old = c.args.session.now in
    let new = c.apply.new.self in
    let applies = c.in-Ok.ensures.applies in
    done_pays (faces_of (λ vtable. (g.dyn-1.0.entry vtable).1) old.faces) (faces_of (λ vtable. (g.dyn-1.0.entry vtable).1) new.faces) old new c.one_outcome.ensures (change_of c.args.edit.now)
    applies.0 applies.1 applies.2 c.in-Ok.ensures.loses

pub returns-in-Err-clause-whole : goal.returns-in-Err-clause-whole
returns-in-Err-clause-whole g c =
    let old = c.args.session.now in
    let new = c.apply.new.self in
    let before = faces_of (λ vtable. (g.dyn-1.0.entry vtable).1) old.faces in
    let applies = c.in-Err.ensures.applies in
    on_ok c.tell_refusal.result c.tell_refusal.ensures.whole
    (λ told. refused_goes before (faces_of (λ vtable. (g.dyn-1.0.entry vtable).1) new.faces) old new c.args.line (g.K.Sink.held c.args.sink.now) (g.K.Sink.held c.tell_refusal.new.sink) (change_of c.args.edit.now)
    c.in-Err.error (reason (state_in before old) (change_of c.args.edit.now) c.in-Err.error applies.0 told.0) applies.1 applies.3 told.1)

pub returns-in-Err-clause-front : goal.returns-in-Err-clause-front
returns-in-Err-clause-front g c =
    let old = c.args.session.now in
    let new = c.apply.new.self in
    refused_begins (faces_of (λ vtable. (g.dyn-1.0.entry vtable).1) old.faces) (faces_of (λ vtable. (g.dyn-1.0.entry vtable).1) new.faces) old new c.args.line (g.K.Sink.held c.args.sink.now) (g.K.Sink.held c.tell_refusal.new.sink)
    (change_of c.args.edit.now) c.one_outcome.ensures c.in-Err.error c.in-Err.ensures.applies.0 c.tell_refusal.ensures.none c.tell_refusal.ensures.front

pub returns-in-Err-clause-paid : goal.returns-in-Err-clause-paid
returns-in-Err-clause-paid g c =
    let old = c.args.session.now in
    let new = c.apply.new.self in
    let before = faces_of (λ vtable. (g.dyn-1.0.entry vtable).1) old.faces in
    let applies = c.in-Err.ensures.applies in
    on_ok c.tell_refusal.result c.tell_refusal.ensures.whole
    (λ told. refused_pays before (faces_of (λ vtable. (g.dyn-1.0.entry vtable).1) new.faces) old new c.one_outcome.ensures (change_of c.args.edit.now) c.in-Err.error
    (reason (state_in before old) (change_of c.args.edit.now) c.in-Err.error applies.0 told.0) (record { state = applies.1; boxes = applies.2; log = applies.3 }))
