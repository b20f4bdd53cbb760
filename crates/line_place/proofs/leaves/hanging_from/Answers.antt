use Rattle.std.proofs.Common.{◌∙◌, ap, arith, sym}
use Rattle.line_place.specs.Line.{Item, item_of}
use Rattle.line_place.proofs.Hanging.{one_more, from_place, from_start}
use Rattle.line_place.proofs.leaves.hanging_from.Goals as goal

pub loop-from-preserved : goal.loop-from-preserved
loop-from-preserved g c =
    let x : Item = item_of c.item.result in
    let space = sym (ap (λ (item : Item). item.space) (c.item.ensures x)) ∙ c.if-item.true in
    (omega arith, one_more (g.S.LineSource.items c.args.source.now) c.loop-from.from x (omega arith) c.loop-from.invariant.0 space c.loop-from.invariant.1)

pub returns-else-item-clause-is : goal.returns-else-item-clause-is
returns-else-item-clause-is g c k lt =
    let x : Item = item_of c.item.result in
    let space = sym (ap (λ (item : Item). item.space) (c.item.ensures x)) ∙ c.if-item.false in
    from_place (g.S.LineSource.items c.args.source.now) c.loop-from.from x (omega arith) c.loop-from.invariant.0 space c.loop-from.invariant.1 k

pub returns-after-loop-from-clause-is : goal.returns-after-loop-from-clause-is
returns-after-loop-from-clause-is g c k lt = from_start (g.S.LineSource.items c.args.source.now) c.loop-from.from (omega arith) c.loop-from.invariant.1 k
