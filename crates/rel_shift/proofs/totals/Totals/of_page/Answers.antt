use Rattle.place_map.specs.Placed.{placed_of}
use Rattle.rel_shift.proofs.Sums.{totals_more}
use Rattle.rel_shift.proofs.totals.Totals.of_page.Goals as goal

pub loop-position-preserved : goal.loop-position-preserved
loop-position-preserved c =
    totals_more (placed_of c.args.placed.now) c.args.positions.now c.loop-position.position-index _ c.loop-position.totals c.add.new.self c.own-own.result c.loop-position-test.true
    c.loop-position.invariant c.own-own.ensures.value c.own-own.ensures.within c.in_ok-add.ensures
