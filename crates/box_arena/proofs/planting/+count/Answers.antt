use Rattle.std.proofs.Common.{arith}
use Rattle.box_arena.proofs.Planted.{count_opened, counted_all, counted_on}
use Rattle.box_arena.proofs.planting.+count.Goals as goal

pub loop-child-init : goal.loop-child-init
loop-child-init t c = (omega arith, omega arith)

pub count-boxes-requires : goal.count-boxes-requires
count-boxes-requires t c =
    let whole = count_opened c.args.tree.now c.deref-child-items.result.now c.deref-child-items.ensures.value in
    let one = counted_on c.deref-child-items.result.now c.loop-child.child-index c.child-item.result c.loop-child-test.true c.child-item.is in
    (omega (arith, whole, one, c.loop-child.invariant.0, c.loop-child.invariant.1, c.decreases), omega (arith, whole, one, c.loop-child.invariant.1, c.requires))

pub overflow_add-boxes : goal.overflow_add-boxes
overflow_add-boxes t c =
    let whole = count_opened c.args.tree.now c.deref-child-items.result.now c.deref-child-items.ensures.value in
    let one = counted_on c.deref-child-items.result.now c.loop-child.child-index c.child-item.result c.loop-child-test.true c.child-item.is in
    omega (arith, whole, one, c.loop-child.invariant.1, c.requires, c.count-boxes.ensures)

pub loop-child-preserved : goal.loop-child-preserved
loop-child-preserved t c =
    let one = counted_on c.deref-child-items.result.now c.loop-child.child-index c.child-item.result c.loop-child-test.true c.child-item.is in
    (omega (arith, c.loop-child.invariant.0), omega (arith, one, c.loop-child.invariant.1, c.count-boxes.ensures))

pub returns : goal.returns
returns t c =
    let whole = count_opened c.args.tree.now c.deref-child-items.result.now c.deref-child-items.ensures.value in
    let none = counted_all c.deref-child-items.result.now c.loop-child.child-index c.loop-child-test.false in
    omega (arith, whole, none, c.loop-child.invariant.1)
