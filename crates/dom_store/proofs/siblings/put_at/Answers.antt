use Rattle.std.proofs.Common.{◌≡◌, ◌∙◌, ap, arith, drop, length, sym, take}
use Rattle.std.specs.Vec.Iter.{into_iter_len}
use Rattle.std.proofs.lemmas.Iterator.{items_from_drains}
use Rattle.std.proofs.lemmas.Iterator.Adapters.{YieldsList-from_vec}
use Rattle.std.proofs.lemmas.List.{append_assoc, map-id}
use Rattle.std.specs.List.{splice}
use Rattle.dom_store.proofs.siblings.put_at.Goals as goal

pub returns-clause-put : goal.returns-clause-put
returns-clause-put c =
    let (s, xs, gives, drains, items, len) = c.in_ok-splice.ensures.items in
    let long : into_iter_len s ≡ length c.args.numbers.items = omega (arith, gives.1, c.args.numbers.ok) in
    let are = sym (map-id xs) ∙ items_from_drains xs (drains.1.0, drains.1.1, λ w. (drains.0, drains.1.2)) (YieldsList-from_vec c.args.numbers.items gives.0 long) in
    let children = c.args.children.now.items in
    items ∙ ap (splice children c.args.index c.args.index) are
    ∙ sym (append_assoc (take c.args.index children) c.args.numbers.items (drop c.args.index children))
