use Rattle.std.proofs.Common.{rules, sym}
use Rattle.computed.proofs.Marking.{unmarked}
use Rattle.computed.proofs.winners.won.Goals as goal

pub returns-then-not-winners-place-clause-value : goal.returns-then-not-winners-place-clause-value
returns-then-not-winners-place-clause-value c =
    sym (unmarked c.args.winners.now.marks c.args.winners.now.list.now.items c.args.property c.place.result c.args.winners.now.are_marked c.place.ensures.place (search rules))
