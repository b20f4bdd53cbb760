use Rattle.std.proofs.Common.{◌∙◌, ap, ℕ, Option}
use Rattle.dom_store.specs.Edits.{changed, changed_if, with_children}
use Rattle.dom_store.specs.State.{State, state_of}
use Rattle.dom_store.specs.Taking.{parent_left, stood_of, unplaced, up_to}
use Rattle.dom_store.proofs.BackLaws.{given_back}
use Rattle.dom_store.proofs.document.Document.take_back.Goals as goal

pub returns-in-Insert : goal.returns-in-Insert
returns-in-Insert c =
    let old = state_of c.args.self.now in
    rw c.in-Insert.is (given_back (state_of c.drop_children.new.self) (state_of c.give_back.new.self) c.in-Insert.next c.give_back.ensures.filled c.give_back.ensures.next
    ∙ ap (up_to c.in-Insert.next) c.drop_children.ensures)

pub returns-in-Move : goal.returns-in-Move
returns-in-Move c =
    let left = with_children (λ now. c.in-Move.left.items) in
    let before = with_children (unplaced (stood_of c.in-Move.stood) c.in-Move.index) in
    rw c.in-Move.is (c.unplace.ensures
    ∙ ap (λ (s : State). changed s c.in-Move.parent before)
    (c.put_children_if.ensures.put
    ∙ (ap (λ (o : Option ℕ). changed_if (state_of c.put_parent.new.self) o left) c.parent_left.ensures ∙ ap (λ (s : State). changed_if s (parent_left c.in-Move.from c.in-Move.parent) left) c.put_parent.ensures.put)))
