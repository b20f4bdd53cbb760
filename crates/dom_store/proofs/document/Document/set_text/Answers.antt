use Rattle.std.proofs.Common.{◌∙◌, Global, String, ap}
use Rattle.std.specs.String.{string_bytes}
use Rattle.dom_store.specs.Edits.{changed, set_text, with_what}
use Rattle.dom_store.specs.State.{state_of, text}
use Rattle.dom_store.proofs.ApplyLaws.{accepts}
use Rattle.dom_store.proofs.document.Document.set_text.Goals as goal

pub returns-clause-applies : goal.returns-clause-applies
returns-clause-applies c =
    let old = state_of c.args.self.now in
    accepts old (state_of c.put_kind-kind.new.self) (set_text c.args.n (string_bytes c.args.text.now)) c.in_ok-elements.elements.items c.in_ok-check_text.ensures c.in_ok-elements.ensures
    (c.put_kind-kind.ensures.put ∙ ap (λ (letters : String Global). changed old c.args.n (with_what (λ what. text (string_bytes letters)))) c.in_ok-text.ensures.cases)
