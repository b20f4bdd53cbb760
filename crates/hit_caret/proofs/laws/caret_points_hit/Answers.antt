use Rattle.hit_caret.proofs.CaretLaws.{caret_points_hit}
use Rattle.hit_caret.proofs.laws.caret_points_hit.Goals as goal

pub returns : goal.returns
returns c = caret_points_hit
