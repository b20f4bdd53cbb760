use Rattle.hit_caret.proofs.HitLaws.{middles_are_hit}
use Rattle.hit_caret.proofs.laws.middles_are_hit.Goals as goal

pub returns : goal.returns
returns c = middles_are_hit
