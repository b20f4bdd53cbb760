use Rattle.relayout.proofs.KeptLaws.{attached_is_right}
use Rattle.relayout.proofs.laws.what_is_kept_is_right_after_an_attach.Goals as goal

pub returns : goal.returns
returns c = attached_is_right
