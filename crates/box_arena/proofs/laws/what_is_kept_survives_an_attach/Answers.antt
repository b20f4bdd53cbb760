use Rattle.box_arena.proofs.Survival.{survive_attach}
use Rattle.box_arena.proofs.laws.what_is_kept_survives_an_attach.Goals as goal

pub returns : goal.returns
returns g c = survive_attach
