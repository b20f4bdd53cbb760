use Rattle.box_arena.proofs.Paired.{same_entry}
use Rattle.box_arena.proofs.equality.equal_items.Goals as goal

pub returns-then-not-equal_item-clause-same : goal.returns-then-not-equal_item-clause-same
returns-then-not-equal_item-clause-same c = λ same.
    c.if-not-equal_item.ensures.same (same_entry c.args.one.now c.args.other.now c.loop-place.place c.index-one-place.result c.index-other-place.result c.loop-place-test.true c.index-one-place.is c.index-other-place.is same)
