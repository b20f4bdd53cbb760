use Rattle.std.proofs.Common.{refl}
use Rattle.flow_laws.proofs.faces.faces_turn_no_box.Goals as goal

pub returns : goal.returns
returns c = record { metrics = λ face character upright value state. refl; retirements = λ face state. refl }
