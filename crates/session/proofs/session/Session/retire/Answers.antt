use Rattle.std.proofs.Common.{ap, refl, None, Err}
use Rattle.std.proofs.lemmas.Result.{err_from_is_err_and}
use Rattle.face_api.specs.Faces.{faces_of}
use Rattle.edits.specs.Change.{retire}
use Rattle.session.specs.State.{state_in}
use Rattle.session.proofs.FaceEdits.{can_retire, retire_refused, with_faces}
use Rattle.session.proofs.Losing.{loses_all}
use Rattle.session.proofs.Histories.{sound_bare}
use Rattle.session.proofs.Standing.{sound_with}
use Rattle.session.proofs.session.Session.retire.Goals as goal

pub returns-clause-applies : goal.returns-clause-applies
returns-clause-applies g c =
    let tables = faces_of (λ vtable. (g.dyn-1.0.entry vtable).1) c.args.self.now.faces in
    let state = state_in tables c.args.self.now in
    (can_retire state c.args.face (λ none. let bad = c.in_ok-retire.ensures.no_face.1 none in absurd cc) c.requires.sound.document.within, ap (with_faces state) c.in_ok-retire.ensures.retired, c.clear.ensures)

pub returns-clause-loses : goal.returns-clause-loses
returns-clause-loses g c =
    loses_all c.names_are_of_places.ensures c.boxes_are_of_elements.ensures (faces_of (λ vtable. (g.dyn-1.0.entry vtable).1) c.args.self.now.faces) c.args.self.now
    (record c.args.self.now { faces = c.retire.new.self; boxes = None; log = c.clear.new.self }) refl c.requires.sound (retire c.args.face) refl

pub returns-clause-sound : goal.returns-clause-sound
returns-clause-sound g c =
    let tables = faces_of (λ vtable. (g.dyn-1.0.entry vtable).1) c.args.self.now.faces in
    sound_bare c.logs_stand_for_states.ensures tables (faces_of (λ vtable. (g.dyn-1.0.entry vtable).1) c.retire.new.self) c.args.self.now c.retire.new.self c.clear.new.self c.clear.ensures c.requires.sound

pub returns-in_err-retire-clause-applies : goal.returns-in_err-retire-clause-applies
returns-in_err-retire-clause-applies g c =
    let tables = faces_of (λ vtable. (g.dyn-1.0.entry vtable).1) c.args.self.now.faces in
    let state = state_in tables c.args.self.now in
    let p = err_from_is_err_and c.from_residual.result c.from_residual.ensures.1 in
    let told = c.in_err-retire.ensures in
    rw (p.1, p.2) (retire_refused state c.args.face c.in_err-retire.field-0.0 told.only (told.no_face.0 (ap Err told.only)), ap (with_faces state) told.unchanged, refl, refl)

pub returns-in_err-retire-clause-sound : goal.returns-in_err-retire-clause-sound
returns-in_err-retire-clause-sound g c =
    let tables = faces_of (λ vtable. (g.dyn-1.0.entry vtable).1) c.args.self.now.faces in
    sound_with tables (faces_of (λ vtable. (g.dyn-1.0.entry vtable).1) c.retire.new.self) c.args.self.now c.retire.new.self c.in_err-retire.ensures.unchanged c.requires.sound
