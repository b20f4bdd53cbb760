use Rattle.face_api.specs.Faces.{faces_of}
use Rattle.input_due.proofs.DocumentLaws.{due_by, if_ok, owed_by}
use Rattle.input_due.proofs.document.due_of_document.Goals as goal

pub returns-clause-due : goal.returns-clause-due
returns-clause-due g c =
    if_ok c.with_document.result (λ due by. due_by (λ vtable. (g.dyn-1.0.entry vtable).1) c.args.view (faces_of (λ vtable. (g.dyn-1.0.entry vtable).1) c.args.faces) c.one_answer.ensures c.args.follows c.args.input.now due by) c.with_document.ensures.outcome

pub returns-clause-owed : goal.returns-clause-owed
returns-clause-owed g c =
    if_ok c.with_document.result (λ due by. owed_by (λ vtable. (g.dyn-1.0.entry vtable).1) c.args.view (faces_of (λ vtable. (g.dyn-1.0.entry vtable).1) c.args.faces) c.one_answer.ensures c.args.follows c.args.input.now due by) c.with_document.ensures.outcome
