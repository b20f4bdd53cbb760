use Rattle.relayout.proofs.KeptLaws.{restyled_is_right, restyled_alike_is_right}
use Rattle.relayout.proofs.laws.what_is_kept_is_right_after_a_restyle.Goals as goal

pub returns : goal.returns
returns c = record { each = restyled_is_right; alike = restyled_alike_is_right }
