use Rattle.std.proofs.Common.{sym, subst, Option, Some, IfSome}
use Rattle.face_api.specs.Faces.{faces_of}
use Rattle.box_gen.specs.Boxes.{root_boxes}
use Rattle.session.specs.Found.{KeepsAll, page_boxes_in}
use Rattle.session.specs.State.{AreKept, IsFormer, styled_in}
use Rattle.session.specs.declared.session.Session.{Session}
use Rattle.session.specs.declared.keeping.KeptBoxes.{KeptBoxes}
use Rattle.session.specs.declared.keeping.KeptBoxes.TheVariants.{Current, Former}
use Rattle.session.proofs.Finding.{keeps_itself, keeps_nothing}
use Rattle.session.proofs.Former.{tree_of}
use Rattle.session.proofs.session.Session.take_boxes.Goals as goal

pub reuse_former-requires-clause-tree : goal.reuse_former-requires-clause-tree
reuse_former-requires-clause-tree g c =
    let made = c.in_ok-made-in-Some-Former.made in
    tree_of made.arena.slots made.root (root_boxes (styled_in c.new_boxes.new.self)) c.in_ok-made-in-Some-Former.ensures.ready.stands

pub returns-in_ok-reuse_former-in-Some-Former-clause-ready : goal.returns-in_ok-reuse_former-in-Some-Former-clause-ready
returns-in_ok-reuse_former-in-Some-Former-clause-ready g c =
    let tables = faces_of (λ vtable. (g.dyn-1.0.entry vtable).1) c.args.self.now.faces in
    let view = c.args.self.now.view in
    let nodes = styled_in c.args.self.now in
    let P : Option KeptBoxes → Type 0 = λ o. IfSome o (AreKept tables view nodes) in
    let Q : KeptBoxes → Type 0 = λ boxes. AreKept tables view nodes boxes in
    let R : Session _ _ → Type 0 = λ s. IsFormer (faces_of (λ vtable. (g.dyn-1.0.entry vtable).1) s.faces) s.view c.in-Some-Former.former in
    let former = subst Q c.in-Some-Former.field-0-is (subst P c.in-Some-Former.is (subst P (sym c.take.ensures.value) c.requires.sound.ready)) in
    let now = c.new_boxes.new.self in
    c.in_ok-reuse_former-in-Some-Former.ensures.ready (faces_of (λ vtable. (g.dyn-1.0.entry vtable).1) now.faces) now.view (styled_in now) (subst R (sym c.in_ok-made-in-Some-Former.ensures.rest) former) c.in_ok-made-in-Some-Former.ensures.ready

pub returns-in-Some-Current-clause-keeps : goal.returns-in-Some-Current-clause-keeps
returns-in-Some-Current-clause-keeps g c =
    let page = page_boxes_in c.args.self.now in
    let made = c.in-Some-Current.made in
    let P : Option KeptBoxes → Type 0 = λ o. KeepsAll o (Some (Current made)) page in
    let Q : KeptBoxes → Type 0 = λ boxes. KeepsAll (Some boxes) (Some (Current made)) page in
    subst P c.take.ensures.value (subst P (sym c.in-Some-Current.is) (subst Q (sym c.in-Some-Current.field-0-is) (keeps_itself (Some (Current made)) page)))

pub returns-in_ok-reuse_former-in-Some-Former-clause-keeps : goal.returns-in_ok-reuse_former-in-Some-Former-clause-keeps
returns-in_ok-reuse_former-in-Some-Former-clause-keeps g c =
    let tables = faces_of (λ vtable. (g.dyn-1.0.entry vtable).1) c.args.self.now.faces in
    let view = c.args.self.now.view in
    let nodes = styled_in c.args.self.now in
    let P : Option KeptBoxes → Type 0 = λ o. IfSome o (AreKept tables view nodes) in
    let Q : KeptBoxes → Type 0 = λ boxes. AreKept tables view nodes boxes in
    let R : Session _ _ → Type 0 = λ s. IsFormer (faces_of (λ vtable. (g.dyn-1.0.entry vtable).1) s.faces) s.view c.in-Some-Former.former in
    let former = subst Q c.in-Some-Former.field-0-is (subst P c.in-Some-Former.is (subst P (sym c.take.ensures.value) c.requires.sound.ready)) in
    let now = c.new_boxes.new.self in
    let made = c.reuse_former.new.made in
    let K : Session _ _ → Type 0 = λ s. KeepsAll (Some (Former c.in-Some-Former.former)) (Some (Current made)) (page_boxes_in s) in
    let L : Option KeptBoxes → Type 0 = λ o. KeepsAll o (Some (Current made)) (page_boxes_in c.args.self.now) in
    let M : KeptBoxes → Type 0 = λ boxes. KeepsAll (Some boxes) (Some (Current made)) (page_boxes_in c.args.self.now) in
    subst L c.take.ensures.value (subst L (sym c.in-Some-Former.is) (subst M (sym c.in-Some-Former.field-0-is) (subst K c.in_ok-made-in-Some-Former.ensures.rest
    (c.in_ok-reuse_former-in-Some-Former.ensures.keeps (faces_of (λ vtable. (g.dyn-1.0.entry vtable).1) now.faces) now.view (styled_in now) (subst R (sym c.in_ok-made-in-Some-Former.ensures.rest) former) c.in_ok-made-in-Some-Former.ensures.ready))))

pub returns-in_ok-made-in-None-clause-keeps : goal.returns-in_ok-made-in-None-clause-keeps
returns-in_ok-made-in-None-clause-keeps g c =
    let page = page_boxes_in c.args.self.now in
    let made = c.in_ok-made-in-None.made in
    let P : Option KeptBoxes → Type 0 = λ o. KeepsAll o (Some (Current made)) page in
    subst P c.take.ensures.value (subst P (sym c.in-None.is) (keeps_nothing (Some (Current made)) page))
