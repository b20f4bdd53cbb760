use Rattle.std.proofs.Common.{◌-◌, arith}
use Rattle.std.proofs.lemmas.Int.{ints}
use Rattle.line_place.specs.Reach.{leaf_reach}
use Rattle.line_place.proofs.SumLaws.{extent_back, reach_back, total_rest}
use Rattle.line_place.proofs.measure.extent_of.Goals as goal

pub overflow_add-extent : goal.overflow_add-extent
overflow_add-extent g c =
    let t = reach_back leaf_reach c.args.run.now c.loop-from.from c.loop-from-test.true c.loop-from.invariant.within in
    let r = total_rest leaf_reach c.args.run.now (c.loop-from.from - 1) in
    omega (arith, ints, t, r, c.requires, c.loop-from.invariant.near, c.extent_at-extent.ensures)

pub loop-from-preserved : goal.loop-from-preserved
loop-from-preserved g c =
    let t = reach_back leaf_reach c.args.run.now c.loop-from.from c.loop-from-test.true c.loop-from.invariant.within in
    let r = total_rest leaf_reach c.args.run.now (c.loop-from.from - 1) in
    let e = extent_back c.args.run.now c.loop-from.from c.loop-from-test.true c.loop-from.invariant.within in
    record {
      is = omega (arith, ints, e, t, r, c.requires, c.loop-from.invariant.is, c.loop-from.invariant.near, c.extent_at-extent.ensures);
      near = omega (arith, ints, t, r, c.requires, c.loop-from.invariant.near, c.extent_at-extent.ensures);
      within = omega arith;
    }
