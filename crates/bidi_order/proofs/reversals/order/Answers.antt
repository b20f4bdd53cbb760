use Rattle.std.proofs.Common.{rules}
use Rattle.bidi_order.proofs.Runs.{all_below, all_there}
use Rattle.bidi_order.proofs.reversals.order.Goals as goal

pub returns-clause-below : goal.returns-clause-below
returns-clause-below c = all_below _ _ (search rules)

pub returns-clause-length : goal.returns-clause-length
returns-clause-length c = all_there _ _ (search rules)
