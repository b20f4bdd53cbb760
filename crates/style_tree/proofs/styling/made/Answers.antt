use Rattle.style_tree.proofs.Joining.{bounded_rolled}
use Rattle.style_tree.proofs.Rooting.{node_is}
use Rattle.style_tree.proofs.styling.made.Goals as goal

pub returns-clause-styled : goal.returns-clause-styled
returns-clause-styled c = node_is _ _ c.in_ok-kind_of.ensures

pub returns-clause-bounded : goal.returns-clause-bounded
returns-clause-bounded c = bounded_rolled _ c.requires.style c.requires.children
