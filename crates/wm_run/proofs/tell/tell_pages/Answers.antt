use Rattle.std.proofs.Common.{◌≡◌, ◌∙◌, ap, subst, sym, List, ℕ}
use Rattle.std.proofs.lemmas.Result.{on_ok_weaker}
use Rattle.std.specs.Io.KnownBytes.{Appends}
use Rattle.face_api.specs.Faces.{faces_of}
use Rattle.dom_store.specs.State.{state_of}
use Rattle.io_edge.proofs.Growth.{nothing_yet}
use Rattle.io_edge.specs.Edge.{AppendsFront}
use Rattle.session.specs.State.{rules_in}
use Rattle.modes_job.specs.Telling.{modes_of, turns_of}
use Rattle.wm_run.proofs.CountLaws.{page_counts}
use Rattle.wm_run.proofs.tell.tell_pages.Goals as goal

pub returns-in_err-flow-clause-front : goal.returns-in_err-flow-clause-front
returns-in_err-flow-clause-front g c =
    let session = c.args.session.now in
    nothing_yet (g.K.Sink.held c.args.sink.now) (modes_of (faces_of (λ vtable. (g.dyn-1.0.entry vtable).1) session.faces) session.view (rules_in session) (state_of session.document))

pub returns-in_err-flow-clause-counts : goal.returns-in_err-flow-clause-counts
returns-in_err-flow-clause-counts g c =
    page_counts (λ vtable. (g.dyn-1.0.entry vtable).1) c.all_are_owed_at_first.ensures c.args.session.now c.args.prepared.now c.page.new.prepared c.args.arranged.now c.page.new.arranged c.requires.sound
    c.page.ensures.prepares c.page.ensures.arranges

pub returns-clause-counts : goal.returns-clause-counts
returns-clause-counts g c =
    page_counts (λ vtable. (g.dyn-1.0.entry vtable).1) c.all_are_owed_at_first.ensures c.args.session.now c.args.prepared.now c.page.new.prepared c.args.arranged.now c.page.new.arranged c.requires.sound
    c.page.ensures.prepares c.page.ensures.arranges

pub returns-clause-whole : goal.returns-clause-whole
returns-clause-whole g c =
    let session = c.args.session.now in
    let faces = faces_of (λ vtable. (g.dyn-1.0.entry vtable).1) session.faces in
    let turned = ap turns_of c.in_ok-flow.ensures.page ∙ sym (c.modes_are_turns.ensures faces session.view (rules_in session) (state_of session.document) c.requires.turnable) in
    on_ok_weaker c.tell_modes.result (λ (w : Appends (g.K.Sink.held c.args.sink.now) (g.K.Sink.held c.tell_modes.new.sink) (turns_of _)). subst (λ (l : List ℕ). Appends (g.K.Sink.held c.args.sink.now) (g.K.Sink.held c.tell_modes.new.sink) l) turned w) c.tell_modes.ensures.whole

pub returns-clause-front : goal.returns-clause-front
returns-clause-front g c =
    let session = c.args.session.now in
    let faces = faces_of (λ vtable. (g.dyn-1.0.entry vtable).1) session.faces in
    let turned = ap turns_of c.in_ok-flow.ensures.page ∙ sym (c.modes_are_turns.ensures faces session.view (rules_in session) (state_of session.document) c.requires.turnable) in
    subst (λ (l : List ℕ). AppendsFront (g.K.Sink.held c.args.sink.now) (g.K.Sink.held c.tell_modes.new.sink) l) turned c.tell_modes.ensures.front
