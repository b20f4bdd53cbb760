use Rattle.std.proofs.Common.{arith}
use Rattle.relayout.specs.Flowed.{part_of}
use Rattle.relayout.proofs.AtomLaws.{lines_in_spread}
use Rattle.relayout.proofs.inside.LaidAtom.over_of.Goals as goal

pub own_baseline-found-requires-clause-reach : goal.own_baseline-found-requires-clause-reach
own_baseline-found-requires-clause-reach c =
    let lines = lines_in_spread (part_of c.args.self.now.laid.now.fragment).inner in
    let near = c.args.self.now.near.inner in
    omega arith
