use Rattle.session.proofs.Weighing.{boxes_fit}
use Rattle.session.proofs.laws.boxes_within_limits_fit.Goals as goal

pub returns : goal.returns
returns c = boxes_fit
