use Rattle.dom_store.proofs.KeepLaws.{keep_roots}
use Rattle.dom_store.proofs.laws.accepted_edits_keep_roots.Goals as goal

pub returns : goal.returns
returns c = keep_roots
