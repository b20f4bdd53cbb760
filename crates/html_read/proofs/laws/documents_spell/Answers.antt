use Rattle.html_read.proofs.DocumentLaws.{documents_are}
use Rattle.html_read.proofs.laws.documents_spell.Goals as goal

pub returns : goal.returns
returns c = λ bytes rest whole. documents_are bytes rest whole
