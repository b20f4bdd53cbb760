use Rattle.std.proofs.Common.{List, String, map, subst, sym}
use Rattle.std.specs.Global.{Global}
use Rattle.std.specs.Result.{IfOk}
use Rattle.std.specs.String.{string_bytes}
use Rattle.dom_store.specs.declared.edit.Edit.{Edit}
use Rattle.dom_store.specs.Edited.{Applies, edit_of}
use Rattle.dom_store.specs.Edits.{set_class}
use Rattle.dom_store.specs.State.{state_of}
use Rattle.dom_store.specs.Taking.{LeadsBack, before_of}
use Rattle.dom_store.proofs.document.Document.apply.Goals as goal

pub returns-in-Class : goal.returns-in-Class
returns-in-Class c =
    let old = state_of c.args.self.now in
    let new = state_of c.set_class.new.self in
    let words = subst (λ (words : List (String Global)). Applies old new (set_class c.in-Class.node (map (λ word. string_bytes word) words)) c.set_class.result) c.deref-in-Class.ensures.value c.set_class.ensures.applies in
    record {
      applies = subst (λ (edit : Edit). Applies old new (edit_of edit) c.set_class.result) (sym c.in-Class.is) words;
      back = subst (λ (edit : Edit). IfOk c.set_class.result (λ change. LeadsBack (edit_of edit) (before_of change.before) new old)) (sym c.in-Class.is) c.set_class.ensures.back;
    }
