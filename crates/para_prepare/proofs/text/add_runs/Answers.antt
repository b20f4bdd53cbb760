use Rattle.para_prepare.proofs.PartsLaws.{unit_within}
use Rattle.para_prepare.proofs.text.add_runs.Goals as goal

pub add_run-requires : goal.add_run-requires
add_run-requires g c =
    unit_within c.args.text.place.letters.now c.args.text.place.span.from c.args.text.place.span.to c.loop-i.at c.args.units.now c.loop-i.i _ c.loop-i-test.true c.args.text.place.within c.loop-i.invariant.order
