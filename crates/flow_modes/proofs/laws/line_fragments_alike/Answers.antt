use Rattle.flow_modes.proofs.LineLaws.{line_fragments_alike}
use Rattle.flow_modes.proofs.laws.line_fragments_alike.Goals as goal

pub returns : goal.returns
returns c = line_fragments_alike
