use Rattle.std.proofs.Common.{List, String, map, subst, sym}
use Rattle.std.specs.Global.{Global}
use Rattle.std.specs.String.{string_bytes}
use Rattle.dom_store.specs.declared.edit.Edit.{Edit}
use Rattle.dom_store.specs.Edited.{edit_of}
use Rattle.dom_store.specs.Edits.{set_class}
use Rattle.dom_store.specs.State.{state_of}
use Rattle.dom_store.specs.Steps.{GivesStep}
use Rattle.dom_store.proofs.document.Document.exact.Goals as goal

pub returns-in-Class : goal.returns-in-Class
returns-in-Class c =
    let state = state_of c.args.self.now in
    let words = subst (λ (words : List (String Global)). GivesStep state (set_class c.in-Class.node (map (λ word. string_bytes word) words)) c.class_step.result) c.deref-in-Class.ensures.value c.class_step.ensures in
    subst (λ (edit : Edit). GivesStep state (edit_of edit) c.class_step.result) (sym c.in-Class.is) words
