use Rattle.std.proofs.Common.{◌∙◌, ℕ, List, map, ap}
use Rattle.std.specs.String.{string_bytes}
use Rattle.dom_store.specs.Edits.{changed, set_class, with_classes, with_what}
use Rattle.dom_store.specs.State.{state_of}
use Rattle.dom_store.proofs.ApplyLaws.{accepts}
use Rattle.dom_store.proofs.document.Document.set_class.Goals as goal

pub returns-clause-applies : goal.returns-clause-applies
returns-clause-applies c =
    let old = state_of c.args.self.now in
    accepts old (state_of c.put_classes-words.new.self) (set_class c.args.n (map (λ word. string_bytes word) c.args.words.now)) c.in_ok-elements.elements.items c.in_ok-check_element.ensures c.in_ok-elements.ensures
    (c.put_classes-words.ensures.put ∙ ap (λ (words : List (List ℕ)). changed old c.args.n (with_what (with_classes words))) c.in_ok-words.ensures)
