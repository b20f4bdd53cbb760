use Rattle.hit_caret.proofs.HitLaws.{hits_are_held}
use Rattle.hit_caret.proofs.laws.hits_are_held.Goals as goal

pub returns : goal.returns
returns c = hits_are_held
