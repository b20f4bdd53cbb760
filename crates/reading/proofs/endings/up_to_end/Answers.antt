use Rattle.reading.proofs.Seeking.{at_here, at_not_here}
use Rattle.reading.proofs.endings.up_to_end.Goals as goal

pub returns-in-Some-clause-read : goal.returns-in-Some-clause-read
returns-in-Some-clause-read g c =
    at_here (g.E.Ending.reads c.args.end.now) c.args.text.now c.loop-at.at c.in-Some.found c.loop-at.invariant c.in-Some.ensures.read

pub loop-at-preserved : goal.loop-at-preserved
loop-at-preserved g c =
    at_not_here (g.E.Ending.reads c.args.end.now) c.args.text.now c.loop-at.at c.loop-at.invariant c.loop-at-test.true c.in_default.ensures.read
