use Rattle.wm_chars.proofs.PairLaws.{break_as_they_open}
use Rattle.wm_chars.proofs.laws.brackets_break_as_they_open.Goals as goal

pub returns : goal.returns
returns c = break_as_they_open
