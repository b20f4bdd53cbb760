use Rattle.box_gen.proofs.HiddenLaws.{hidden_nodes_are_nothing}
use Rattle.box_gen.proofs.laws.hidden_nodes_are_nothing.Goals as goal

pub returns : goal.returns
returns c = hidden_nodes_are_nothing
