use Rattle.std.proofs.Common.{◌≡◌, ◌∙◌, subst, sym, ap, List, ℕ, ◌++◌, Some}
use Rattle.face_api.specs.Faces.{faces_of}
use Rattle.generator.specs.Generator.{gen_input}
use Rattle.input_due.specs.declared.follows.Follows.TheVariants.{Script}
use Rattle.input_due.specs.Due.{IsDueBy, IsOf}
use Rattle.input_due.specs.Input.{IsDueOfDocument}
use Rattle.input_due.specs.Owed.{IsOwedBy, IsOwedByDocument}
use Rattle.wm_run.proofs.CountLaws.{none_counted}
use Rattle.wm_run.proofs.JobLaws.{told_text}
use Rattle.wm_run.proofs.StandingLaws.{settled_text}
use Rattle.wm_run.proofs.generated.written_for.Goals as goal

pub returns-in-Done-clause-is : goal.returns-in-Done-clause-is
returns-in-Done-clause-is g c =
    let faces = faces_of (λ vtable. (g.dyn-1.0.entry vtable).1) c.args.faces in
    let told = settled_text (IsOf (λ vtable. (g.dyn-1.0.entry vtable).1) c.in_ok-due.due) (Some c.new-sink.result) (Some c.tell.new.sink) c.tell.result c.in-Done.is c.tell.ensures.stands in
    let same : c.tell.new.sink ≡ told.1 = told.3 ∙ ap (λ (l : List ℕ). l ++ told.1) c.new-sink.ensures in
    let P : List ℕ → Type 0 = λ bytes. IsDueBy (λ vtable. (g.dyn-1.0.entry vtable).1) (IsDueOfDocument faces c.args.view Script bytes) c.in_ok-due.due in
    let by = subst P (c.deref.ensures.value ∙ c.in_ok-input.ensures.bytes) c.in_ok-due.ensures.due in
    (told.0, (by told.0 c.tell.new.sink).1 (subst (λ (bytes : List ℕ). IsOf (λ vtable. (g.dyn-1.0.entry vtable).1) c.in_ok-due.due told.0 bytes) (sym same) told.2))

pub returns-in-Done-clause-only : goal.returns-in-Done-clause-only
returns-in-Done-clause-only g c = λ end_ other due.
    let faces = faces_of (λ vtable. (g.dyn-1.0.entry vtable).1) c.args.faces in
    let told = settled_text (IsOf (λ vtable. (g.dyn-1.0.entry vtable).1) c.in_ok-due.due) (Some c.new-sink.result) (Some c.tell.new.sink) c.tell.result c.in-Done.is c.tell.ensures.stands in
    let same : c.tell.new.sink ≡ told.1 = told.3 ∙ ap (λ (l : List ℕ). l ++ told.1) c.new-sink.ensures in
    let P : List ℕ → Type 0 = λ bytes. IsDueBy (λ vtable. (g.dyn-1.0.entry vtable).1) (IsDueOfDocument faces c.args.view Script bytes) c.in_ok-due.due in
    let by = subst P (c.deref.ensures.value ∙ c.in_ok-input.ensures.bytes) c.in_ok-due.ensures.due in
    told_text (λ vtable. (g.dyn-1.0.entry vtable).1) c.steps_have_one_end.ensures (IsDueOfDocument faces c.args.view Script (gen_input c.args.count)) c.in_ok-due.due told.0 told.1 by told.2 end_ other due ∙ sym same

pub returns-in_err-input-clause-counts : goal.returns-in_err-input-clause-counts
returns-in_err-input-clause-counts g c = λ owed owes. none_counted owed c.args.prepared.now c.args.arranged.now

pub returns-in_err-due-clause-counts : goal.returns-in_err-due-clause-counts
returns-in_err-due-clause-counts g c = λ owed owes. none_counted owed c.args.prepared.now c.args.arranged.now

pub returns-in-Done-clause-counts : goal.returns-in-Done-clause-counts
returns-in-Done-clause-counts g c = λ owed owes.
    let P : List ℕ → Type 0 = λ bytes. IsOwedBy (λ vtable. (g.dyn-1.0.entry vtable).1) (IsOwedByDocument (faces_of (λ vtable. (g.dyn-1.0.entry vtable).1) c.args.faces) c.args.view Script bytes) c.in_ok-due.due in
    let by = subst P (c.deref.ensures.value ∙ c.in_ok-input.ensures.bytes) c.in_ok-due.ensures.owed in
    c.tell.ensures.counts owed ((by owed).0 owes)
