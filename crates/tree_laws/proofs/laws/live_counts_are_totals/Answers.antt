use Rattle.tree_laws.proofs.Weighing.{counts_are_totals}
use Rattle.tree_laws.proofs.laws.live_counts_are_totals.Goals as goal

pub returns : goal.returns
returns c = counts_are_totals
