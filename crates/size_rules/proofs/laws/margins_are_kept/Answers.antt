use Rattle.size_rules.proofs.Solved.{keeps}
use Rattle.size_rules.proofs.laws.margins_are_kept.Goals as goal

pub returns : goal.returns
returns c = keeps
