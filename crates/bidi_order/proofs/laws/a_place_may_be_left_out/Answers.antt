use Rattle.bidi_order.proofs.AllLevels.{may_be_left_out}
use Rattle.bidi_order.proofs.laws.a_place_may_be_left_out.Goals as goal

pub returns : goal.returns
returns c = may_be_left_out
