use Rattle.box_arena.proofs.Survival.{survive_restyle}
use Rattle.box_arena.proofs.laws.what_is_kept_survives_a_restyle.Goals as goal

pub returns : goal.returns
returns g c = survive_restyle
