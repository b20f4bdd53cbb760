use Rattle.std.proofs.Common.{◌∙◌, List, ap}
use Rattle.css_types.specs.declared.value.Declaration.{Declaration}
use Rattle.dom_store.specs.Edits.{changed, set_style, with_own, with_what}
use Rattle.dom_store.specs.State.{state_of}
use Rattle.dom_store.proofs.ApplyLaws.{accepts}
use Rattle.dom_store.proofs.document.Document.set_style.Goals as goal

pub returns-clause-applies : goal.returns-clause-applies
returns-clause-applies c =
    let old = state_of c.args.self.now in
    accepts old (state_of c.put_own-declarations.new.self) (set_style c.args.n c.args.own.now) c.in_ok-elements.elements.items c.in_ok-check_element.ensures c.in_ok-elements.ensures
    (c.put_own-declarations.ensures.put ∙ ap (λ (own : List Declaration). changed old c.args.n (with_what (with_own own))) c.in_ok-own.ensures)
