use Rattle.flow_modes.proofs.ParagraphLaws.{paragraph_lines_alike}
use Rattle.flow_modes.proofs.laws.paragraph_lines_alike.Goals as goal

pub returns : goal.returns
returns c = paragraph_lines_alike
