use Rattle.relayout.proofs.ReuseLaws.{reused_is_right}
use Rattle.relayout.proofs.laws.what_is_reused_is_right.Goals as goal

pub returns : goal.returns
returns c = reused_is_right
