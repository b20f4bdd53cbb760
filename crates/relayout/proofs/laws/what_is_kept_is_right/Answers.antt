use Rattle.relayout.proofs.KeptLaws.{kept_is_right, kept_text_is_right}
use Rattle.relayout.proofs.laws.what_is_kept_is_right.Goals as goal

pub returns : goal.returns
returns c = record { results = kept_is_right; texts = kept_text_is_right }
