use Rattle.box_arena.proofs.Survival.{survive_detach}
use Rattle.box_arena.proofs.laws.what_is_kept_survives_a_detach.Goals as goal

pub returns : goal.returns
returns g c = survive_detach
