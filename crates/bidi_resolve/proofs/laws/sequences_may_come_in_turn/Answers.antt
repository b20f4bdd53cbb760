use Rattle.bidi_resolve.proofs.TurnLaws.{may_come_in_turn}
use Rattle.bidi_resolve.proofs.laws.sequences_may_come_in_turn.Goals as goal

pub returns : goal.returns
returns c = may_come_in_turn
