use Rattle.session.proofs.Styled.{documents_fit}
use Rattle.session.proofs.laws.documents_within_limits_fit.Goals as goal

pub returns : goal.returns
returns c = documents_fit c.trees_weigh_no_more.ensures c.live_counts_are_totals.ensures
