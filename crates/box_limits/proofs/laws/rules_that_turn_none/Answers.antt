use Rattle.box_limits.proofs.Alike.{rules_that_turn_none}
use Rattle.box_limits.proofs.laws.rules_that_turn_none.Goals as goal

pub returns : goal.returns
returns c = rules_that_turn_none
