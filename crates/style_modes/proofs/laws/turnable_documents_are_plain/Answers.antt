use Rattle.style_modes.proofs.Documents.{turnable_documents_are_plain}
use Rattle.style_modes.proofs.laws.turnable_documents_are_plain.Goals as goal

pub returns : goal.returns
returns c = turnable_documents_are_plain
