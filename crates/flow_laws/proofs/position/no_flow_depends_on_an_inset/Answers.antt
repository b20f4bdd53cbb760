use Rattle.flow_laws.proofs.StaticLaws.{flows_are_of_static_nodes}
use Rattle.flow_laws.proofs.position.no_flow_depends_on_an_inset.Goals as goal

pub returns : goal.returns
returns c = flows_are_of_static_nodes
