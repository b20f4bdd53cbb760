use Rattle.dom_store.proofs.KeepLaws.{keep_said}
use Rattle.dom_store.proofs.laws.accepted_edits_stay_said.Goals as goal

pub returns : goal.returns
returns c = keep_said
