use Rattle.bidi_order.proofs.LevelZero.{level_zero_stays}
use Rattle.bidi_order.proofs.laws.level_zero_stays.Goals as goal

pub returns : goal.returns
returns c = level_zero_stays
