use Rattle.tree_laws.proofs.Trees.{trees_weigh_no_more}
use Rattle.tree_laws.proofs.laws.trees_weigh_no_more.Goals as goal

pub returns : goal.returns
returns c = trees_weigh_no_more
