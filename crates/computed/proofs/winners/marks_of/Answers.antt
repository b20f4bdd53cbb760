use Rattle.computed.proofs.Marking.{marking_goes_on, marking_starts}
use Rattle.computed.proofs.winners.marks_of.Goals as goal

pub loop-winner-init : goal.loop-winner-init
loop-winner-init c = marking_starts c.args.winners.now

pub loop-winner-preserved : goal.loop-winner-preserved
loop-winner-preserved c =
    marking_goes_on c.args.winners.now c.loop-winner.winner-index _ c.place.result c.loop-winner.marks c.loop-winner-test.true c.place.ensures.place c.place.ensures.below c.loop-winner.invariant
