use Rattle.std.proofs.Common.{◌++◌, refl, arith}
use Rattle.listing.specs.Runs.{comma, unit_glyphs, units}
use Rattle.listing.proofs.Puts.{told_broken, told_put}
use Rattle.listing.proofs.runs.put_units.Goals as goal

pub returns-in_err-put_unit-clause-front : goal.returns-in_err-put_unit-clause-front
returns-in_err-put_unit-clause-front g c =
    told_broken unit_glyphs c.loop-unit.sign comma c.args.units.now c.loop-unit.unit-index (g.K.Sink.held c.args.sink.now) (g.K.Sink.held c.loop-unit.sink) (g.K.Sink.held c.put_unit.new.sink)
    (c.args.waiting.now ++ units c.args.first c.args.units.now) c.loop-unit.waiting c.unit-item.result c.unit-item.result (unit_glyphs c.loop-unit.sign c.unit-item.result)
    c.loop-unit-test.true c.unit-item.is refl c.loop-unit.invariant.put c.in_err-put_unit.ensures.front

pub loop-unit-preserved : goal.loop-unit-preserved
loop-unit-preserved g c = record {
  put =
      told_put unit_glyphs c.loop-unit.sign comma c.args.units.now c.loop-unit.unit-index (g.K.Sink.held c.args.sink.now) (g.K.Sink.held c.loop-unit.sink) (g.K.Sink.held c.put_unit.new.sink)
      (c.args.waiting.now ++ units c.args.first c.args.units.now) c.loop-unit.waiting c.unit-item.result c.unit-item.result (unit_glyphs c.loop-unit.sign c.unit-item.result)
      c.loop-unit-test.true c.unit-item.is refl c.loop-unit.invariant.put c.put_unit.new.waiting c.in_ok-put_unit.ensures.waits;
  later = omega (arith, c.loop-unit.invariant.later, c.put_unit.ensures.later);
}
