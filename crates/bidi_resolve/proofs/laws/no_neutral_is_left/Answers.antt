use Rattle.bidi_resolve.proofs.LengthLaws.{no_neutral}
use Rattle.bidi_resolve.proofs.laws.no_neutral_is_left.Goals as goal

pub returns : goal.returns
returns c = no_neutral
