use Rattle.std.proofs.Common.{◌∙◌, ◌≡◌, ℕ, ap, subst, sym, IfSome, Option}
use Rattle.dom_store.specs.Edits.{changed, changed_if, move_to, with_children, with_parent, without}
use Rattle.dom_store.specs.Standing.{children_at, parent_at}
use Rattle.dom_store.specs.State.{State, state_of}
use Rattle.dom_store.specs.Taking.{parent_left, stood_of, unplaced}
use Rattle.dom_store.proofs.ApplyLaws.{accepts}
use Rattle.dom_store.proofs.MoveLaws.{moved_back, moved_there}
use Rattle.dom_store.proofs.document.Document.move_to.Goals as goal

pub returns-clause-applies : goal.returns-clause-applies
returns-clause-applies c =
    let old = state_of c.args.self.now in
    let n = c.args.n in
    let parent = c.args.parent in
    let others = c.in_ok-others.others.items in
    let is : c.parent_left-old.result ≡ parent_left (parent_at old n) parent = c.parent_left-old.ensures ∙ ap (λ (o : Option ℕ). parent_left o parent) c.parent-from.ensures in
    let P : Option ℕ → Type 0 = λ o. IfSome o (λ p. others ≡ without n (children_at old p)) in
    let leaves : State → Option ℕ → State = λ s o. changed_if s o (with_children (λ before. others)) in
    accepts old (state_of c.put_parent.new.self) (move_to n parent c.args.index) c.in_ok-elements.elements.items (sym c.in_ok-standing.ensures.judges) c.in_ok-elements.ensures
    (c.put_parent.ensures.put
    ∙ ap (λ (s : State). changed s n (with_parent parent))
    (c.put_children_if-left.ensures.put ∙ (ap (leaves (state_of c.enter.new.self)) is ∙ ap (λ (s : State). leaves s (parent_left (parent_at old n) parent)) c.in_ok-stood.ensures.put))
    ∙ moved_there old n parent c.args.index others (subst P is c.in_ok-others.ensures))

pub returns-clause-back : goal.returns-clause-back
returns-clause-back c =
    let old = state_of c.args.self.now in
    let n = c.args.n in
    let parent = c.args.parent in
    let index = c.args.index in
    let from = c.parent-from.result in
    let out = state_of c.put_children_if-left.new.self in
    let is = c.parent_left-old.ensures in
    let others = c.in_ok-others.others.items in
    let left = c.put_children_if-left.result.items in
    let stood = c.in_ok-stood.stood in
    let put = c.in_ok-stood.ensures.put in
    let leaves : State → Option ℕ → State = λ s o. changed_if s o (with_children (λ before. others)) in
    let back : Option ℕ → State = λ o. changed_if out o (with_children (λ now. left)) in
    moved_back old n parent index out (state_of c.put_parent.new.self) from others left (stood_of stood) c.parent-from.ensures
    (ap (λ (s : State). changed s parent (with_children (unplaced (stood_of stood) index))) (sym put) ∙ c.in_ok-stood.ensures.back)
    (c.put_children_if-left.ensures.put ∙ (ap (leaves (state_of c.enter.new.self)) is ∙ ap (λ (s : State). leaves s (parent_left from parent)) put))
    (sym (ap back is) ∙ (c.put_children_if-left.ensures.back ∙ put))
    c.put_parent.ensures.back
