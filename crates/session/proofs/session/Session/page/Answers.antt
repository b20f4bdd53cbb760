use Rattle.std.proofs.Common.{◌∙◌, ap, subst, Some, arith}
use Rattle.face_api.specs.Faces.{faces_of}
use Rattle.place_map.specs.Placed.{placed_of}
use Rattle.session.specs.Kept.{shifted_by}
use Rattle.session.specs.State.{page_in, styled_in}
use Rattle.session.specs.declared.session.Session.{Session}
use Rattle.session.proofs.Shifts.{kept_bounded, kept_few, page_is, within_more}
use Rattle.session.specs.declared.keeping.KeptBoxes.TheVariants.{Current}
use Rattle.relayout.specs.Named.{ArrangesOwed, PreparesOwed}
use Rattle.session.specs.Found.{page_boxes_in}
use Rattle.session.proofs.Finding.{arranges_for, has_all, prepares_for}
use Rattle.session.proofs.Standing.{sound_on}
use Rattle.session.proofs.session.Session.page.Goals as goal

pub shifted-requires : goal.shifted-requires
shifted-requires g c = record {
  near = c.in_ok-placed.ensures.near;
  within = within_more _ _ (omega arith) (placed_of c.in_ok-placed.placed).parts c.in_ok-placed.ensures.within;
  sized = c.in_ok-placed.ensures.sized;
  bounded = kept_bounded c.positions_are_bounded.ensures (styled_in c.take_boxes.new.self) c.flow_page.ensures.ready.within c.flow_page.new.made.positions c.flow_page.ensures.ready.positions;
  few = kept_few c.positions_are_bounded.ensures (styled_in c.take_boxes.new.self) c.flow_page.ensures.ready.within c.flow_page.new.made.positions c.flow_page.ensures.ready.positions;
}

pub returns-clause-page : goal.returns-clause-page
returns-clause-page g c =
    c.in_ok-page.ensures.page
    ∙ ap (shifted_by c.flow_page.new.made.positions) c.in_ok-placed.ensures.page
    ∙ page_is c.pages_stay_without_insets.ensures (faces_of (λ vtable. (g.dyn-1.0.entry vtable).1) c.take_boxes.new.self.faces) c.take_boxes.new.self.view (styled_in c.take_boxes.new.self)
    c.flow_page.new.made.positions c.flow_page.ensures.ready.positions
    ∙ ap (λ (s : Session _ _). page_in (faces_of (λ vtable. (g.dyn-1.0.entry vtable).1) s.faces) s) c.take_boxes.ensures.rest

pub returns-clause-sound : goal.returns-clause-sound
returns-clause-sound g c =
    sound_on (faces_of (λ vtable. (g.dyn-1.0.entry vtable).1) c.take_boxes.new.self.faces) c.take_boxes.new.self (Some (Current c.flow_page.new.made)) c.take_boxes.ensures.sound c.flow_page.ensures.ready

pub returns-clause-prepares : goal.returns-clause-prepares
returns-clause-prepares g c =
    let made = c.in_ok-made.made in
    let P : Session _ _ → Type 0 = λ s. PreparesOwed made.arena.slots made.root (page_boxes_in s) c.args.prepared.now c.flow_page.new.prepared in
    prepares_for c.args.self.now made c.args.prepared.now c.flow_page.new.prepared c.in_ok-made.ensures.keeps (subst P c.take_boxes.ensures.rest c.flow_page.ensures.prepares)

pub returns-clause-arranges : goal.returns-clause-arranges
returns-clause-arranges g c =
    let made = c.in_ok-made.made in
    let P : Session _ _ → Type 0 = λ s. ArrangesOwed (faces_of (λ vtable. (g.dyn-1.0.entry vtable).1) s.faces) s.view made.arena.slots made.root (page_boxes_in s) c.args.arranged.now c.flow_page.new.arranged in
    arranges_for c.args.self.now made c.args.arranged.now c.flow_page.new.arranged c.in_ok-made.ensures.keeps (faces_of (λ vtable. (g.dyn-1.0.entry vtable).1) c.args.self.now.faces)
    (subst P c.take_boxes.ensures.rest c.flow_page.ensures.arranges)

pub returns-in_err-placed-clause-prepares : goal.returns-in_err-placed-clause-prepares
returns-in_err-placed-clause-prepares g c =
    let made = c.in_ok-made.made in
    let P : Session _ _ → Type 0 = λ s. PreparesOwed made.arena.slots made.root (page_boxes_in s) c.args.prepared.now c.flow_page.new.prepared in
    prepares_for c.args.self.now made c.args.prepared.now c.flow_page.new.prepared c.in_ok-made.ensures.keeps (subst P c.take_boxes.ensures.rest c.flow_page.ensures.prepares)

pub returns-in_err-placed-clause-arranges : goal.returns-in_err-placed-clause-arranges
returns-in_err-placed-clause-arranges g c =
    let made = c.in_ok-made.made in
    let P : Session _ _ → Type 0 = λ s. ArrangesOwed (faces_of (λ vtable. (g.dyn-1.0.entry vtable).1) s.faces) s.view made.arena.slots made.root (page_boxes_in s) c.args.arranged.now c.flow_page.new.arranged in
    arranges_for c.args.self.now made c.args.arranged.now c.flow_page.new.arranged c.in_ok-made.ensures.keeps (faces_of (λ vtable. (g.dyn-1.0.entry vtable).1) c.args.self.now.faces)
    (subst P c.take_boxes.ensures.rest c.flow_page.ensures.arranges)

pub returns-in_err-page-clause-prepares : goal.returns-in_err-page-clause-prepares
returns-in_err-page-clause-prepares g c =
    let made = c.in_ok-made.made in
    let P : Session _ _ → Type 0 = λ s. PreparesOwed made.arena.slots made.root (page_boxes_in s) c.args.prepared.now c.flow_page.new.prepared in
    prepares_for c.args.self.now made c.args.prepared.now c.flow_page.new.prepared c.in_ok-made.ensures.keeps (subst P c.take_boxes.ensures.rest c.flow_page.ensures.prepares)

pub returns-in_err-page-clause-arranges : goal.returns-in_err-page-clause-arranges
returns-in_err-page-clause-arranges g c =
    let made = c.in_ok-made.made in
    let P : Session _ _ → Type 0 = λ s. ArrangesOwed (faces_of (λ vtable. (g.dyn-1.0.entry vtable).1) s.faces) s.view made.arena.slots made.root (page_boxes_in s) c.args.arranged.now c.flow_page.new.arranged in
    arranges_for c.args.self.now made c.args.arranged.now c.flow_page.new.arranged c.in_ok-made.ensures.keeps (faces_of (λ vtable. (g.dyn-1.0.entry vtable).1) c.args.self.now.faces)
    (subst P c.take_boxes.ensures.rest c.flow_page.ensures.arranges)

pub returns-clause-found : goal.returns-clause-found
returns-clause-found g c =
    has_all c.take_boxes.new.self c.flow_page.new.made (faces_of (λ vtable. (g.dyn-1.0.entry vtable).1) c.take_boxes.new.self.faces) c.in_ok-placed.ensures.found
