use Rattle.relayout.proofs.KeptLaws.{bare_is_right, forgotten_is_right}
use Rattle.relayout.proofs.laws.what_is_not_kept_is_right.Goals as goal

pub returns : goal.returns
returns c = record { bare = bare_is_right; forgotten = forgotten_is_right }
