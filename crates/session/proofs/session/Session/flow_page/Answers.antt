use Rattle.std.proofs.Common.{subst, sym}
use Rattle.face_api.specs.Faces.{faces_of}
use Rattle.fragment_types.specs.Fragment.{kind_of, piece_of}
use Rattle.fragment_types.specs.declared.fragment.Fragment.{out-Fragment}
use Rattle.place_map.specs.Placed.{Page}
use Rattle.rel_shift.specs.Bounds.{AreSized}
use Rattle.rel_shift.specs.Laws.{ArePlacesWithin}
use Rattle.session.specs.Found.{page_boxes_in}
use Rattle.session.specs.State.{styled_in}
use Rattle.session.proofs.Near.{page_within, view_near}
use Rattle.session.proofs.Shifts.{flow_is, page_sized}
use Rattle.session.proofs.Standing.{page_under, steady_ready}
use Rattle.session.proofs.session.Session.flow_page.Goals as goal

pub place-requires : goal.place-requires
place-requires g c = record {
  near = view_near c.what_does_not_spread_is_near.ensures c.args.self.now.view (kind_of (out-Fragment c.in_ok-root.root).kind) (piece_of c.in_ok-root.root) c.requires.sound.view c.in_ok-root.ensures.near;
}

pub returns-clause-within : goal.returns-clause-within
returns-clause-within g c =
    subst (λ (page : Page). ArePlacesWithin 1152358554653425664 page.parts) (sym c.in_ok-placed.ensures.page)
    (page_within c.args.self.now.view (piece_of c.in_ok-root.root) c.requires.sound.view c.in_ok-root.ensures.near)

pub returns-clause-sized : goal.returns-clause-sized
returns-clause-sized g c =
    let faces = faces_of (λ vtable. (g.dyn-1.0.entry vtable).1) c.args.self.now.faces in
    let nodes = styled_in c.args.self.now in
    subst AreSized (sym (flow_is faces c.args.self.now.view nodes _ (piece_of c.in_ok-root.root) c.in_ok-placed.ensures.page (c.in_ok-root.ensures.layout _ c.requires.ready.stands)))
    (page_sized c.contents_have_sizes.ensures c.sizes_of_boxes_suffice.ensures faces c.args.self.now.view nodes c.requires.sound.view)

pub returns-clause-ready : goal.returns-clause-ready
returns-clause-ready g c =
    steady_ready (faces_of (λ vtable. (g.dyn-1.0.entry vtable).1) c.args.self.now.faces) c.args.self.now.view (styled_in c.args.self.now) c.args.made.now c.relayout.new.arena 0 c.requires.ready c.relayout.ensures.steady c.relayout.ensures.founded

pub returns-in_err-root-clause-ready : goal.returns-in_err-root-clause-ready
returns-in_err-root-clause-ready g c =
    steady_ready (faces_of (λ vtable. (g.dyn-1.0.entry vtable).1) c.args.self.now.faces) c.args.self.now.view (styled_in c.args.self.now) c.args.made.now c.relayout.new.arena 0 c.requires.ready c.relayout.ensures.steady c.relayout.ensures.founded

pub returns-in_err-placed-clause-ready : goal.returns-in_err-placed-clause-ready
returns-in_err-placed-clause-ready g c =
    steady_ready (faces_of (λ vtable. (g.dyn-1.0.entry vtable).1) c.args.self.now.faces) c.args.self.now.view (styled_in c.args.self.now) c.args.made.now c.relayout.new.arena 0 c.requires.ready c.relayout.ensures.steady c.relayout.ensures.founded

pub returns-clause-prepares : goal.returns-clause-prepares
returns-clause-prepares g c =
    let page = page_boxes_in c.args.self.now in
    c.counts_are_by_name.ensures.texts c.args.made.now.arena.slots c.args.made.now.root page c.args.prepared.now c.relayout.new.prepared (page_under c.requires.ready c.arenas_are_sound.ensures) c.relayout.ensures.prepares

pub returns-clause-arranges : goal.returns-clause-arranges
returns-clause-arranges g c =
    let faces = faces_of (λ vtable. (g.dyn-1.0.entry vtable).1) c.args.self.now.faces in
    let page = page_boxes_in c.args.self.now in
    c.counts_are_by_name.ensures.arranged faces c.args.self.now.view c.args.made.now.arena.slots c.args.made.now.root page c.args.arranged.now c.relayout.new.arranged (page_under c.requires.ready c.arenas_are_sound.ensures) c.relayout.ensures.arranges

pub returns-in_err-root-clause-prepares : goal.returns-in_err-root-clause-prepares
returns-in_err-root-clause-prepares g c =
    let page = page_boxes_in c.args.self.now in
    c.counts_are_by_name.ensures.texts c.args.made.now.arena.slots c.args.made.now.root page c.args.prepared.now c.relayout.new.prepared (page_under c.requires.ready c.arenas_are_sound.ensures) c.relayout.ensures.prepares

pub returns-in_err-root-clause-arranges : goal.returns-in_err-root-clause-arranges
returns-in_err-root-clause-arranges g c =
    let faces = faces_of (λ vtable. (g.dyn-1.0.entry vtable).1) c.args.self.now.faces in
    let page = page_boxes_in c.args.self.now in
    c.counts_are_by_name.ensures.arranged faces c.args.self.now.view c.args.made.now.arena.slots c.args.made.now.root page c.args.arranged.now c.relayout.new.arranged (page_under c.requires.ready c.arenas_are_sound.ensures) c.relayout.ensures.arranges

pub returns-in_err-placed-clause-prepares : goal.returns-in_err-placed-clause-prepares
returns-in_err-placed-clause-prepares g c =
    let page = page_boxes_in c.args.self.now in
    c.counts_are_by_name.ensures.texts c.args.made.now.arena.slots c.args.made.now.root page c.args.prepared.now c.relayout.new.prepared (page_under c.requires.ready c.arenas_are_sound.ensures) c.relayout.ensures.prepares

pub returns-in_err-placed-clause-arranges : goal.returns-in_err-placed-clause-arranges
returns-in_err-placed-clause-arranges g c =
    let faces = faces_of (λ vtable. (g.dyn-1.0.entry vtable).1) c.args.self.now.faces in
    let page = page_boxes_in c.args.self.now in
    c.counts_are_by_name.ensures.arranged faces c.args.self.now.view c.args.made.now.arena.slots c.args.made.now.root page c.args.arranged.now c.relayout.new.arranged (page_under c.requires.ready c.arenas_are_sound.ensures) c.relayout.ensures.arranges

pub returns-clause-found : goal.returns-clause-found
returns-clause-found g c =
    let faces = faces_of (λ vtable. (g.dyn-1.0.entry vtable).1) c.args.self.now.faces in
    let view = c.args.self.now.view in
    let nodes = styled_in c.args.self.now in
    let ready = steady_ready faces view nodes c.args.made.now c.relayout.new.arena 0 c.requires.ready c.relayout.ensures.steady c.relayout.ensures.founded in
    c.counts_are_by_name.ensures.kept faces view c.relayout.new.arena.slots c.args.made.now.root (page_boxes_in c.args.self.now) (page_under ready c.arenas_are_sound-2.ensures)
    (c.in_ok-root.ensures.kept c.requires.ready.founded)
