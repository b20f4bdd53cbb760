use Rattle.relayout.proofs.KeptLaws.{marked_is_right, dropped_is_right}
use Rattle.relayout.proofs.laws.what_is_kept_is_right_after_a_mark.Goals as goal

pub returns : goal.returns
returns c = record { marked = marked_is_right; dropped = dropped_is_right }
