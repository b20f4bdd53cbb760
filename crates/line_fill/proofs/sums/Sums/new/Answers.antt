use Rattle.std.proofs.Common.{rules, ◌≡◌, ◌∙◌, ap, List, [], ◌∷◌, ◌++◌, length}
use Rattle.line_fill.specs.declared.sums.Place.{Place}
use Rattle.line_fill.proofs.Summing.{room_after, summed_first, summed_on, summed_all, stand_near}
use Rattle.line_fill.proofs.sums.Sums.new.Goals as goal

pub loop-item-init : goal.loop-item-init
loop-item-init c = summed_first c.args.items.now c.push.new.self.items c.first-place.result (c.first-place.ensures c.args.items.now) (c.in_ok-push.ensures.items ∙ ap (λ (ps : List Place). ps ++ c.first-place.result ∷ []) c.in_ok-places.ensures.items)

pub after-place-requires : goal.after-place-requires
after-place-requires c = room_after c.args.items.now c.loop-item.place c.loop-item.item-index _ c.loop-item-test.true c.loop-item.invariant.at c.requires

pub loop-item-preserved : goal.loop-item-preserved
loop-item-preserved c =
    let counted : c.len.result ≡ length c.loop-item.places.items = search rules in
    summed_on c.args.items.now c.loop-item.places.items _ c.loop-item.place c.after-place.result c.loop-item.item-index _ _ c.loop-item-test.true
    counted c.after-place.ensures c.in_ok-push-2.ensures.items c.loop-item.invariant

pub returns : goal.returns
returns c = summed_all c.args.items.now c.loop-item.places.items c.loop-item.place c.loop-item.item-index c.loop-item.auto.item-index-end c.loop-item-test.false c.loop-item.invariant

pub invariant_of-result : goal.invariant_of-result
invariant_of-result c =
    stand_near c.args.items.now c.loop-item.places.items c.requires
    (summed_all c.args.items.now c.loop-item.places.items c.loop-item.place c.loop-item.item-index c.loop-item.auto.item-index-end c.loop-item-test.false c.loop-item.invariant)
