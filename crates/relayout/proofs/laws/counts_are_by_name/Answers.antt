use Rattle.relayout.proofs.NamedLaws.{counts_by_name}
use Rattle.relayout.proofs.laws.counts_are_by_name.Goals as goal

pub returns : goal.returns
returns c = counts_by_name
