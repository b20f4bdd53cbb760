use Rattle.session.proofs.Histories.{bring_no_more}
use Rattle.session.proofs.laws.edits_bring_no_more.Goals as goal

pub returns : goal.returns
returns c = bring_no_more c.accepted_edits_weigh.ensures
