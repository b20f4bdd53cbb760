use Rattle.std.proofs.Common.{◌∙◌, ℕ, List, ap}
use Rattle.dom_store.specs.Edits.{remove, without_nodes}
use Rattle.dom_store.specs.Standing.{inclusive_descendants}
use Rattle.dom_store.specs.State.{state_of}
use Rattle.dom_store.proofs.ApplyLaws.{accepts}
use Rattle.dom_store.proofs.document.Document.remove.Goals as goal

pub returns-clause-applies : goal.returns-clause-applies
returns-clause-applies c =
    let old = state_of c.args.self.now in
    accepts old (state_of c.take_all_out.new.self) (remove c.args.n) c.in_ok-elements.elements.items c.in_ok-check_removal.ensures c.in_ok-elements.ensures
    (c.take_all_out.ensures ∙ (ap (λ (gone : List ℕ). without_nodes gone (state_of c.leave_parent.new.self)) (c.deref.ensures.value ∙ c.in_ok-gone.ensures) ∙ ap (without_nodes (inclusive_descendants old c.args.n)) c.leave_parent.ensures))
