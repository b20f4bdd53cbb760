use Rattle.relayout.proofs.KeptLaws.{detached_is_right}
use Rattle.relayout.proofs.laws.what_is_kept_is_right_after_a_detach.Goals as goal

pub returns : goal.returns
returns c = detached_is_right
