use Rattle.std.proofs.Common.{◌∙◌, ℕ, Option, ap, sym}
use Rattle.dom_store.specs.Edits.{changed_if, with_children, without}
use Rattle.dom_store.specs.State.{state_of}
use Rattle.dom_store.proofs.document.Document.leave_parent.Goals as goal

pub returns-in-Some : goal.returns-in-Some
returns-in-Some c = c.drop_child.ensures ∙ ap (λ (o : Option ℕ). changed_if (state_of c.args.self.now) o (with_children (without c.args.n))) (sym c.in-Some.is ∙ c.parent.ensures)
