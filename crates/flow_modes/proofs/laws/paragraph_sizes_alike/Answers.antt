use Rattle.flow_modes.proofs.ParagraphLaws.{paragraph_sizes_alike}
use Rattle.flow_modes.proofs.laws.paragraph_sizes_alike.Goals as goal

pub returns : goal.returns
returns c = paragraph_sizes_alike
