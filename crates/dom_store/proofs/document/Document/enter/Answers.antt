use Rattle.std.proofs.Common.{◌∙◌, ap, subst}
use Rattle.dom_store.specs.Edits.{changed, with_children}
use Rattle.dom_store.specs.Standing.{children_at}
use Rattle.dom_store.specs.State.{State, state_of}
use Rattle.dom_store.specs.Taking.{IsStanding, turned, without_run}
use Rattle.dom_store.proofs.MoveLaws.{came_back, turned_here}
use Rattle.dom_store.proofs.document.Document.enter.Goals as goal

pub returns-in_ok-put_child-in-Nowhere-clause-back : goal.returns-in_ok-put_child-in-Nowhere-clause-back
returns-in_ok-put_child-in-Nowhere-clause-back c =
    let old = state_of c.args.self.now in
    let nowhere = subst (IsStanding c.args.n (children_at old c.args.parent)) c.in-Nowhere.is c.requires.standing in
    ap (λ (s : State). changed s c.args.parent (with_children (without_run c.args.index 1))) c.in_ok-put_child-in-Nowhere.ensures.put ∙ came_back old c.args.n c.args.parent c.args.index c.requires.within nowhere

pub returns-in-At-clause-back : goal.returns-in-At-clause-back
returns-in-At-clause-back c =
    let old = state_of c.args.self.now in
    let there = subst (IsStanding c.args.n (children_at old c.args.parent)) c.in-At.is c.requires.standing in
    ap (λ (s : State). changed s c.args.parent (with_children (turned c.args.index c.in-At.place))) c.turn_children.ensures
    ∙ turned_here old c.args.n c.args.parent c.args.index c.requires.within c.in-At.place there.0 there.1
