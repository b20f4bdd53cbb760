use Rattle.style_modes.proofs.Documents.{turnable_documents_turn}
use Rattle.style_modes.proofs.laws.turnable_documents_turn.Goals as goal

pub returns : goal.returns
returns c = turnable_documents_turn
