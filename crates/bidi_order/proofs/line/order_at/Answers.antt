use Rattle.std.proofs.Common.{◌≡◌, ◌∙◌, sym, ap, length}
use Rattle.bidi_order.proofs.LineLaws.{looked_up}
use Rattle.bidi_order.proofs.line.order_at.Goals as goal

pub look_up-requires : goal.look_up-requires
look_up-requires c =
    let many : length c.deref.result.now ≡ length c.args.text.now.places.now = ap length c.deref.ensures.value ∙ c.in_ok-line.ensures.length in
    rw many at c.in_ok-order.ensures.below

pub returns-clause-rearranged : goal.returns-clause-rearranged
returns-clause-rearranged c =
    let many : length c.deref.result.now ≡ length c.args.text.now.places.now = ap length c.deref.ensures.value ∙ c.in_ok-line.ensures.length in
    rw c.look_up.ensures
    (looked_up (length c.deref.result.now) c.args.text.now.places.now c.in_ok-order.order.items (sym many) c.in_ok-order.ensures.rearranged)
