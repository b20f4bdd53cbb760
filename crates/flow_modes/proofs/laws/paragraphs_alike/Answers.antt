use Rattle.flow_modes.proofs.ParagraphLaws.{paragraphs_alike}
use Rattle.flow_modes.proofs.laws.paragraphs_alike.Goals as goal

pub returns : goal.returns
returns c = paragraphs_alike
