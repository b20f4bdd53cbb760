use Rattle.std.proofs.Common.{◌≡◌, ◌∙◌, ◌∷◌, ◌++◌, ℕ, List, [], true, false, append-nil, take, get_or, ap, arith, sym}
use Rattle.std.proofs.lemmas.Grind.{common_steps}
use Rattle.std.proofs.lemmas.List.{take_all}
use Rattle.std.specs.List.{list_any}
use Rattle.std.specs.Prelude.{nat_eq}
use Rattle.std.specs.Global.{Vec}
use Rattle.dom_store.specs.Exact.{without_each}
use Rattle.dom_store.proofs.ExactlyLaws.{kept_more}
use Rattle.dom_store.proofs.siblings.without_each.Goals as goal
use Rattle.dom_store.proofs.siblings.without_each.Goals.{then-not-contains+in_ok-push, else-not-contains}

pub loop-number-preserved : goal.loop-number-preserved
loop-number-preserved c = λ number. grind (arith, common_steps, c.loop-number.invariant number)

pub loop-child-preserved : goal.loop-child-preserved
loop-child-preserved c =
    let numbers = c.args.numbers.now in
    let children = c.args.children.now in
    let at = c.loop-child.child-index in
    let child = get_or children at 0 in
    let told : c.contains.result ≡ list_any (nat_eq child) numbers =
    c.contains.ensures ∙ (c.loop-number.invariant child ∙ ap (list_any (nat_eq child)) (take_all c.loop-number.number-index numbers c.loop-number-test.false)) in
    elim c.if-not-contains.branch [
      | then-not-contains+in_ok-push w ↦
          ap (λ (l : Vec ℕ). l.items) w.rest-is
          ∙ (w.in_ok-push.ensures.items ∙ (ap (λ (l : List ℕ). l ++ child ∷ []) c.loop-child.invariant ∙ sym (kept_more numbers children at false c.loop-child-test.true (sym told ∙ w.if-not-contains.true))))
      | else-not-contains w ↦
          ap (λ (l : Vec ℕ). l.items) w.rest-is
          ∙ (c.loop-child.invariant ∙ sym (kept_more numbers children at true c.loop-child-test.true (sym told ∙ w.if-not-contains.false) ∙ append-nil (without_each numbers (take at children))))
    ]
