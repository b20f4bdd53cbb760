use Rattle.std.proofs.Common.{◌-◌, arith, map}
use Rattle.std.proofs.lemmas.Int.{ints}
use Rattle.line_place.specs.Marks.{mark_of}
use Rattle.line_place.specs.Reach.{mark_reach}
use Rattle.line_place.proofs.MarkLaws.{of_box}
use Rattle.line_place.proofs.SumLaws.{total_back, total_rest, width_back}
use Rattle.line_place.proofs.measure.width.Goals as goal

pub advance-width-requires-clause-of_box : goal.advance-width-requires-clause-of_box
advance-width-requires-clause-of_box g c = of_box _ (c.loop-from.from - 1) c.args.marks.now _ c.requires.of_boxes (omega arith) c.index-marks-from.is

pub advance-width-requires-clause-reach : goal.advance-width-requires-clause-reach
advance-width-requires-clause-reach g c =
    let t = total_back (mark_reach c.args.boxes.now) mark_of c.args.marks.now c.loop-from.from _ c.loop-from-test.true c.loop-from.invariant.within c.index-marks-from.is in
    let r = total_rest (mark_reach c.args.boxes.now) (map mark_of c.args.marks.now) (c.loop-from.from - 1) in
    omega (arith, t, r, c.requires.reach)

pub overflow_add-width : goal.overflow_add-width
overflow_add-width g c =
    let t = total_back (mark_reach c.args.boxes.now) mark_of c.args.marks.now c.loop-from.from _ c.loop-from-test.true c.loop-from.invariant.within c.index-marks-from.is in
    let r = total_rest (mark_reach c.args.boxes.now) (map mark_of c.args.marks.now) (c.loop-from.from - 1) in
    omega (arith, ints, t, r, c.requires.reach, c.loop-from.invariant.near, c.advance-width.ensures.near)

pub loop-from-preserved : goal.loop-from-preserved
loop-from-preserved g c =
    let t = total_back (mark_reach c.args.boxes.now) mark_of c.args.marks.now c.loop-from.from _ c.loop-from-test.true c.loop-from.invariant.within c.index-marks-from.is in
    let r = total_rest (mark_reach c.args.boxes.now) (map mark_of c.args.marks.now) (c.loop-from.from - 1) in
    let e = width_back c.args.boxes.now c.args.marks.now c.loop-from.from _ c.loop-from-test.true c.loop-from.invariant.within c.index-marks-from.is in
    record {
      is = omega (arith, ints, e, t, r, c.requires.reach, c.loop-from.invariant.is, c.loop-from.invariant.near, c.advance-width.ensures.is, c.advance-width.ensures.near);
      near = omega (arith, ints, t, r, c.requires.reach, c.loop-from.invariant.near, c.advance-width.ensures.near);
      within = omega arith;
    }
