use Rattle.cluster_units.proofs.Order.{in_order}
use Rattle.cluster_units.proofs.laws.units_stand_in_order.Goals as goal

pub returns : goal.returns
returns c = in_order
