use Rattle.line_place.proofs.Leaf.{leaf_at}
use Rattle.line_place.proofs.leaves.leaf_at.Goals as goal

pub returns-clause-is : goal.returns-clause-is
returns-clause-is g c =
    leaf_at c.args.levels.now (g.S.LineSource.items c.args.source.now) c.args.place _ c.requires.place c.requires.levels (c.requires.hanging c.args.place c.requires.place)
