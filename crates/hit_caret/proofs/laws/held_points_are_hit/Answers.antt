use Rattle.hit_caret.proofs.HitLaws.{held_points_are_hit}
use Rattle.hit_caret.proofs.laws.held_points_are_hit.Goals as goal

pub returns : goal.returns
returns c = held_points_are_hit
