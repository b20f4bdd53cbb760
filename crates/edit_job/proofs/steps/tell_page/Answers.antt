use Rattle.std.proofs.Common.{ap}
use Rattle.face_api.specs.Faces.{faces_of}
use Rattle.io_edge.proofs.Growth.{nothing_yet}
use Rattle.listing.specs.Listing.{listing}
use Rattle.session.specs.Found.{page_boxes_in}
use Rattle.session.specs.State.{page_in}
use Rattle.session.specs.declared.session.Session.{Session}
use Rattle.edit_job.proofs.OwedLaws.{page_costs, page_paid}
use Rattle.edit_job.proofs.StepLaws.{on_ok}
use Rattle.edit_job.proofs.steps.tell_page.Goals as goal

pub returns-in_err-placed-clause-front : goal.returns-in_err-placed-clause-front
returns-in_err-placed-clause-front g c = nothing_yet (g.K.Sink.held c.args.sink.now) (listing (page_in (faces_of (λ vtable. (g.dyn-1.0.entry vtable).1) c.args.session.now.faces) c.args.session.now))

pub returns-in_err-placed-clause-costs : goal.returns-in_err-placed-clause-costs
returns-in_err-placed-clause-costs g c = λ owing paid.
    page_costs (faces_of (λ vtable. (g.dyn-1.0.entry vtable).1) c.args.session.now.faces) c.args.session.now owing c.args.prepared.now c.page.new.prepared c.args.arranged.now c.page.new.arranged paid
    c.page.ensures.prepares c.page.ensures.arranges

pub returns-clause-costs : goal.returns-clause-costs
returns-clause-costs g c = λ owing paid.
    page_costs (faces_of (λ vtable. (g.dyn-1.0.entry vtable).1) c.args.session.now.faces) c.args.session.now owing c.args.prepared.now c.page.new.prepared c.args.arranged.now c.page.new.arranged paid
    c.page.ensures.prepares c.page.ensures.arranges

pub returns-clause-paid : goal.returns-clause-paid
returns-clause-paid g c =
    let old = c.args.session.now in
    let new = c.page.new.self in
    let rest = c.page.ensures.rest in
    on_ok c.write_listing.result c.write_listing.ensures.whole (λ _ owing.
    page_paid (faces_of (λ vtable. (g.dyn-1.0.entry vtable).1) old.faces) (faces_of (λ vtable. (g.dyn-1.0.entry vtable).1) new.faces) old new owing
    (ap (λ (s : Session _ _). faces_of (λ vtable. (g.dyn-1.0.entry vtable).1) s.faces) rest) (ap (λ (s : Session _ _). page_boxes_in s) rest) (ap (λ (s : Session _ _). s.view) rest) c.in_ok-placed.ensures.found)
