use Rattle.box_gen.proofs.EdgeLaws.{pieces_have_edges}
use Rattle.box_gen.proofs.laws.pieces_have_edges.Goals as goal

pub returns : goal.returns
returns c = pieces_have_edges
