use Rattle.std.proofs.Common.{◌≡◌, ◌∙◌, ap, arith, length, List, sym}
use Rattle.std.specs.Vec.Iter.{into_iter_len}
use Rattle.std.specs.List.{splice}
use Rattle.std.proofs.lemmas.Iterator.{items_from_drains}
use Rattle.std.proofs.lemmas.Iterator.Adapters.{YieldsList-from_vec}
use Rattle.std.proofs.lemmas.List.{map-id}
use Rattle.css_types.specs.Rule.{Ruling, rulings_of}
use Rattle.edits.specs.Exact.{put_at}
use Rattle.session.proofs.RuleEdits.{rulings_put}
use Rattle.session.proofs.rules.put_among.Goals as goal

pub returns-clause-put : goal.returns-clause-put
returns-clause-put c =
    let (s, xs, gives, drains, items, len) = c.in_ok-splice.ensures.items in
    let copies = c.in_ok-copies.copies in
    let rules = c.args.rules.now.items in
    let long : into_iter_len s ≡ length copies.items = omega (arith, gives.1, copies.ok) in
    let are = sym (map-id xs) ∙ items_from_drains xs (drains.1.0, drains.1.1, λ w. (drains.0, drains.1.2)) (YieldsList-from_vec copies.items gives.0 long) in
    ap rulings_of (items ∙ ap (splice rules c.args.index c.args.index) are)
    ∙ rulings_put c.args.index rules copies.items
    ∙ ap (λ (more : List Ruling). put_at c.args.index more (rulings_of rules)) c.in_ok-copies.ensures
