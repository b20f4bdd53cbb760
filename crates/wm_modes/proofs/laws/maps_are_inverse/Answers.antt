use Rattle.wm_modes.proofs.MapLaws.{back, forth}
use Rattle.wm_modes.proofs.laws.maps_are_inverse.Goals as goal

pub returns : goal.returns
returns c = record { back = back; forth = forth }
