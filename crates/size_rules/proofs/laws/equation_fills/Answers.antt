use Rattle.size_rules.proofs.Solved.{fills}
use Rattle.size_rules.proofs.laws.equation_fills.Goals as goal

pub returns : goal.returns
returns c = fills
