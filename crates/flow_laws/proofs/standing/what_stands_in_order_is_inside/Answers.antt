use Rattle.flow_laws.proofs.StandingLaws.{in_order_is_inside}
use Rattle.flow_laws.proofs.standing.what_stands_in_order_is_inside.Goals as goal

pub returns : goal.returns
returns c = in_order_is_inside
