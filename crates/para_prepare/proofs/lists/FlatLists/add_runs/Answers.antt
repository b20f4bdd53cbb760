use Rattle.para_prepare.specs.Flat.{flat_of}
use Rattle.para_prepare.specs.Views.{letters_at}
use Rattle.para_prepare.proofs.FlatRuns.{goes_next, next_bounds, next_bytes}
use Rattle.para_prepare.proofs.lists.FlatLists.add_runs.Goals as goal

pub add_run-requires-clause-bytes : goal.add_run-requires-clause-bytes
add_run-requires-clause-bytes g c = next_bytes (letters_at c.args.text.place.letters.now c.args.text.place.span) _ _ c.args.text.place.bytes

pub add_run-requires-clause-unit : goal.add_run-requires-clause-unit
add_run-requires-clause-unit g c =
    next_bounds c.args.text.style.now (letters_at c.args.text.place.letters.now c.args.text.place.span) c.args.units.now c.loop-i.i _ c.loop-i.at c.loop-i-test.true c.loop-i.invariant.order c.requires.one c.args.text.size.high c.args.text.place.rises

pub loop-i-preserved : goal.loop-i-preserved
loop-i-preserved g c =
    goes_next (flat_of c.loop-i.self) (flat_of c.pass.new.self) (flat_of c.add_run.new.self) (flat_of c.args.self.now) _ _ (letters_at c.args.text.place.letters.now c.args.text.place.span) c.loop-i.at c.args.units.now c.loop-i.i _
    c.loop-i.invariant c.loop-i-test.true (c.pass.ensures.grown _) c.in_ok-add_run.ensures
