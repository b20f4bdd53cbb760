use Rattle.std.proofs.Common.{ap, refl, None, Err}
use Rattle.std.proofs.lemmas.Result.{err_from_is_err_and}
use Rattle.face_api.specs.Faces.{faces_of}
use Rattle.edits.specs.Change.{metric}
use Rattle.session.specs.State.{state_in}
use Rattle.session.proofs.FaceEdits.{can_set, set_refused, with_faces}
use Rattle.session.proofs.Losing.{loses_all}
use Rattle.session.proofs.Histories.{sound_bare}
use Rattle.session.proofs.Standing.{sound_with}
use Rattle.session.proofs.session.Session.set_metric.Goals as goal

pub returns-clause-applies : goal.returns-clause-applies
returns-clause-applies g c =
    let tables = faces_of (λ vtable. (g.dyn-1.0.entry vtable).1) c.args.self.now.faces in
    let state = state_in tables c.args.self.now in
    (can_set state c.args.face c.args.c c.args.upright c.args.value c.in_ok-set.ensures.room c.requires.sound.document.within, ap (with_faces state) c.in_ok-set.ensures.row, c.clear.ensures)

pub returns-clause-loses : goal.returns-clause-loses
returns-clause-loses g c =
    loses_all c.names_are_of_places.ensures c.boxes_are_of_elements.ensures (faces_of (λ vtable. (g.dyn-1.0.entry vtable).1) c.args.self.now.faces) c.args.self.now
    (record c.args.self.now { faces = c.set.new.self; boxes = None; log = c.clear.new.self }) refl c.requires.sound (metric c.args.face c.args.c c.args.upright c.args.value) refl

pub returns-clause-sound : goal.returns-clause-sound
returns-clause-sound g c =
    let tables = faces_of (λ vtable. (g.dyn-1.0.entry vtable).1) c.args.self.now.faces in
    sound_bare c.logs_stand_for_states.ensures tables (faces_of (λ vtable. (g.dyn-1.0.entry vtable).1) c.set.new.self) c.args.self.now c.set.new.self c.clear.new.self c.clear.ensures c.requires.sound

pub returns-in_err-set-clause-applies : goal.returns-in_err-set-clause-applies
returns-in_err-set-clause-applies g c =
    let tables = faces_of (λ vtable. (g.dyn-1.0.entry vtable).1) c.args.self.now.faces in
    let state = state_in tables c.args.self.now in
    let p = err_from_is_err_and c.from_residual.result c.from_residual.ensures.1 in
    let told = c.in_err-set.ensures in
    rw (p.1, p.2) (
      set_refused state c.args.face c.args.c c.args.upright c.args.value c.in_err-set.field-0.0 (λ is. told.no_face.0 (ap Err is)) (λ is. told.fixed (ap Err is)) (λ is. told.full (ap Err is)),
      ap (with_faces state) told.unchanged,
      refl,
      refl,
    )

pub returns-in_err-set-clause-sound : goal.returns-in_err-set-clause-sound
returns-in_err-set-clause-sound g c =
    let tables = faces_of (λ vtable. (g.dyn-1.0.entry vtable).1) c.args.self.now.faces in
    sound_with tables (faces_of (λ vtable. (g.dyn-1.0.entry vtable).1) c.set.new.self) c.args.self.now c.set.new.self c.in_err-set.ensures.unchanged c.requires.sound
