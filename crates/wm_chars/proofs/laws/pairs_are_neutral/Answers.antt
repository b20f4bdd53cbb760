use Rattle.wm_chars.proofs.PairLaws.{are_neutral}
use Rattle.wm_chars.proofs.laws.pairs_are_neutral.Goals as goal

pub returns : goal.returns
returns c = are_neutral
