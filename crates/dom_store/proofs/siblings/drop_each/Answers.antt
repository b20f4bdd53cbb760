use Rattle.std.proofs.Common.{◌∙◌, ℕ, List, ap, get_or, sym, take}
use Rattle.std.proofs.lemmas.List.{take_more}
use Rattle.dom_store.specs.Edits.{without}
use Rattle.dom_store.specs.Exact.{without_each}
use Rattle.dom_store.proofs.ExactlyLaws.{dropped_more, none_dropped}
use Rattle.dom_store.proofs.siblings.drop_each.Goals as goal

pub loop-number-init : goal.loop-number-init
loop-number-init c = none_dropped c.args.children.now.items

pub loop-number-preserved : goal.loop-number-preserved
loop-number-preserved c =
    let numbers = c.args.numbers.now in
    let at = c.loop-number.number-index in
    let children = c.args.children.now.items in
    c.drop_from.ensures
    ∙ (ap (without (get_or numbers at 0)) c.loop-number.invariant
    ∙ (dropped_more (take at numbers) (get_or numbers at 0) children ∙ ap (λ (l : List ℕ). without_each l children) (sym (take_more numbers at 0 c.loop-number-test.true))))
