use Rattle.html_read.proofs.OrderLaws.{nodes_in_order, fragment_in_order}
use Rattle.html_read.proofs.laws.nodes_stand_in_order.Goals as goal

pub returns : goal.returns
returns c = record { documents = nodes_in_order; fragments = fragment_in_order }
