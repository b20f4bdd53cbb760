use Rattle.std.proofs.Common.{subst, sym, IsTrue}
use Rattle.dom_store.specs.Edited.{edit_of}
use Rattle.dom_store.specs.Edits.{after}
use Rattle.dom_store.specs.State.{State}
use Rattle.dom_store.specs.declared.edit.Edit.{Edit}
use Rattle.session.specs.Found.{GoOn}
use Rattle.session.specs.Setting.{CanSetBy}
use Rattle.session.proofs.GoingOn.{goes_whole}
use Rattle.session.proofs.keeping.edited_boxes.Goals as goal

pub returns-in-Text : goal.returns-in-Text
returns-in-Text c =
    subst (λ (edit : Edit). GoOn (λ (state : State). IsTrue c.args.alike → CanSetBy state (edit_of edit)) (λ (state : State). after state (edit_of edit)) c.args.boxes c.with_text.result) (sym c.in-Text.is)
    (record {
      keeps = λ faces view rules state can kept. c.with_text.ensures.keeps faces view rules state (can c.if-alike.true) kept;
      kept = λ faces view rules state can kept. c.with_text.ensures.kept faces view rules state (can c.if-alike.true) kept;
    })

pub returns-in-Text-2 : goal.returns-in-Text-2
returns-in-Text-2 c =
    let edit = edit_of c.args.edit.now in
    goes_whole (λ (state : State). IsTrue c.args.alike → CanSetBy state edit) (λ (state : State). after state edit) c.args.boxes c.outdated.result c.outdated.ensures.keeps c.outdated.ensures.kept
