use Rattle.bidi_order.proofs.AllLevels.{lesser_stands_for_two}
use Rattle.bidi_order.proofs.laws.the_lesser_stands_for_two.Goals as goal

pub returns : goal.returns
returns c = lesser_stands_for_two
