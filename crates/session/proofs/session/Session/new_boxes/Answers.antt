use Rattle.std.proofs.Common.{◌∙◌, ap, subst, List}
use Rattle.css_types.specs.Rule.{Ruling, rulings_of}
use Rattle.dom_store.specs.State.{state_of}
use Rattle.style_tree.specs.Styling.{styled_document}
use Rattle.face_api.specs.Faces.{faces_of}
use Rattle.session.specs.State.{AreReady}
use Rattle.session.proofs.Fresh.{founded, right}
use Rattle.session.proofs.Standing.{indexed_by}
use Rattle.session.proofs.session.Session.new_boxes.Goals as goal

pub returns-clause-ready : goal.returns-clause-ready
returns-clause-ready g c =
    let own = c.in_ok-made.ensures in
    let made = c.in_ok-made.made in
    let tables = faces_of (λ vtable. (g.dyn-1.0.entry vtable).1) c.args.self.now.faces in
    let indexed = indexed_by c.make_index.new.index c.made_index.result.now (rulings_of c.deref.result.now) c.made_index.ensures c.make_index.ensures.kept ∙ ap rulings_of c.deref.ensures.value in
    subst (λ (rules : List Ruling). AreReady tables c.args.self.now.view (styled_document rules (state_of c.args.self.now.document)) made) indexed (record {
      stands = own.stands;
      free = own.free;
      fit = own.fit;
      named = own.named;
      founded = founded c.what_is_reused_is_found.ensures.bare tables c.args.self.now.view made.arena.slots made.root own.bare;
      right = right c.what_is_not_kept_is_right.ensures.bare tables c.args.self.now.view made.arena.slots made.root own.bare;
      within = own.inside;
      positions = own.positions;
    })
