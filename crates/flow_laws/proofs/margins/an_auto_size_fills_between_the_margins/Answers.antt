use Rattle.flow_laws.proofs.MarginLaws.{auto_fills}
use Rattle.flow_laws.proofs.margins.an_auto_size_fills_between_the_margins.Goals as goal

pub returns : goal.returns
returns c = auto_fills
