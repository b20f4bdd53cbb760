use Rattle.wm_chars.proofs.Outside.{none_outside}
use Rattle.wm_chars.proofs.laws.nothing_is_told_outside.Goals as goal

pub returns : goal.returns
returns c = none_outside
