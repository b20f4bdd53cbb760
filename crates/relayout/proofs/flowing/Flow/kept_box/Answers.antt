use Rattle.std.proofs.Common.{refl, rules}
use Rattle.box_arena.specs.At.{node_of}
use Rattle.relayout.proofs.FlowingLaws.{kept_flowed}
use Rattle.relayout.proofs.RowLaws.{lives_there}
use Rattle.relayout.proofs.flowing.Flow.kept_box.Goals as goal

pub node-node-requires : goal.node-node-requires
node-node-requires g c = lives_there c.args.self.now.arena.now c.args.own.now.key c.requires.node c.requires.is

pub kept-requires : goal.kept-requires
kept-requires g c = lives_there c.args.self.now.arena.now c.args.own.now.key c.requires.node c.requires.is

pub returns-in_ok-style-in-Some-clause-flowed : goal.returns-in_ok-style-in-Some-clause-flowed
returns-in_ok-style-in-Some-clause-flowed g c = λ outside can.
    kept_flowed outside _ c.args.own.now _ (node_of c.node-node.result.now) can c.node-node.ensures.node c.in_ok-style-in-Some.ensures.cases (search rules)
