use Rattle.wm_modes.proofs.AddUp.{add_up}
use Rattle.wm_modes.proofs.laws.places_add_up.Goals as goal

pub returns : goal.returns
returns c = add_up
