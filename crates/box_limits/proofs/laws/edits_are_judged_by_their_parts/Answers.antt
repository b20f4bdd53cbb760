use Rattle.box_limits.proofs.Parts.{edits_are_judged}
use Rattle.box_limits.proofs.laws.edits_are_judged_by_their_parts.Goals as goal

pub returns : goal.returns
returns c = edits_are_judged c.accepted_edits_keep_roots.ensures c.accepted_edits_keep_documents_whole.ensures c.accepted_edits_keep_documents_reached.ensures
