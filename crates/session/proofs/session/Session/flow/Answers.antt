use Rattle.std.proofs.Common.{◌∙◌, refl, sym}
use Rattle.face_api.specs.Faces.{faces_of}
use Rattle.dom_store.specs.State.{state_of}
use Rattle.session.specs.State.{rules_in}
use Rattle.session.specs.Turning.{flow_way}
use Rattle.session.proofs.session.Session.flow.Goals as goal

-- turned to horizontal-tb the flow stays as it is
pub returns-clause-page : goal.returns-clause-page
returns-clause-page g c =
    let session = c.args.self.now in
    let faces = faces_of (λ vtable. (g.dyn-1.0.entry vtable).1) session.faces in
    let law = c.unshifted_pages_turn.ensures in
    c.in_ok-placed.ensures.page
    ∙ sym (law.stay faces session.view (rules_in session) (state_of session.document) c.requires.turnable)
    ∙ sym (law.turn faces session.view flow_way (rules_in session) (state_of session.document) refl c.requires.turnable)
