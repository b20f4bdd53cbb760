use Rattle.bidi_resolve.proofs.LeftToRight.{level_zero}
use Rattle.bidi_resolve.proofs.laws.left_to_right_has_level_zero.Goals as goal

pub returns : goal.returns
returns c = level_zero
