use Rattle.face_api.specs.Faces.{faces_of}
use Rattle.io_edge.proofs.Growth.{nothing_yet}
use Rattle.probe_job.specs.Answers.{answers}
use Rattle.session.specs.State.{page_in}
use Rattle.wm_run.proofs.CountLaws.{page_counts}
use Rattle.wm_run.proofs.tell.tell_probes.Goals as goal

pub returns-in_err-placed-clause-front : goal.returns-in_err-placed-clause-front
returns-in_err-placed-clause-front g c =
    nothing_yet (g.K.Sink.held c.args.sink.now) (answers (page_in (faces_of (λ vtable. (g.dyn-1.0.entry vtable).1) c.args.session.now.faces) c.args.session.now) c.args.probes.now)

pub returns-in_err-placed-clause-counts : goal.returns-in_err-placed-clause-counts
returns-in_err-placed-clause-counts g c =
    page_counts (λ vtable. (g.dyn-1.0.entry vtable).1) c.all_are_owed_at_first.ensures c.args.session.now c.args.prepared.now c.page.new.prepared c.args.arranged.now c.page.new.arranged c.requires.sound
    c.page.ensures.prepares c.page.ensures.arranges

pub returns-clause-counts : goal.returns-clause-counts
returns-clause-counts g c =
    page_counts (λ vtable. (g.dyn-1.0.entry vtable).1) c.all_are_owed_at_first.ensures c.args.session.now c.args.prepared.now c.page.new.prepared c.args.arranged.now c.page.new.arranged c.requires.sound
    c.page.ensures.prepares c.page.ensures.arranges
